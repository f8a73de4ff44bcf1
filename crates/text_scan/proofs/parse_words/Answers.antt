-- `text_scan::parse_words`. The loop's invariant: the state is that of the bytes passed.
use Rattle.std.proofs.Common.{◌≡◌, length, arith}
use mathlib.Core.Path.{sym}
use Rattle.text_scan.specs.Scanning.{scanned, words_parsed}
use Rattle.text_scan.proofs.Laws.{scan_more}
use Rattle.text_scan.proofs.parse_words.Goals as goal

pub loop-n-init : goal.loop-n-init
unfolding scanned
loop-n-init c = rw (c.start-scan.ensures, c.titling_of.ensures)

pub loop-n-preserved : goal.loop-n-preserved
loop-n-preserved c = rw (c.go_on.ensures, c.loop-n.invariant) (sym (scan_more c.args.text.now c.loop-n.n))

pub returns : goal.returns
unfolding words_parsed
returns c =
    let end : c.loop-n.n ≡ length c.args.text.now = omega arith in
    rw (c.end-state.ensures, c.take_word.ensures, c.loop-n.invariant, end)
