-- `text_scan::parse_words`. The loop's invariant: the state is that of the bytes passed.
use Rattle.text_scan.specs.Scanning.{scanned}
use mathlib.Core.Path.{◌≡◌}
use Rattle.text_scan.proofs.parse_words.Given as goal

abbrev pub invariant-loop-n : goal.invariant-loop-n
invariant-loop-n l = l.scan ≡ scanned l.text l.n
