-- `text_names::is_word`. The loop's invariant: the bytes passed agree.
use Rattle.text_names.specs.Names.{agrees}
use mathlib.Core.Bool.{true}
use mathlib.Core.Path.{◌≡◌}
use Rattle.text_names.proofs.is_word.Given as goal

abbrev pub invariant-loop-i : goal.invariant-loop-i
invariant-loop-i l = true ≡ agrees l.word l.row l.i
