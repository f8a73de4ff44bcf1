-- The parts are put one after the other, each where the one before it ends.
use Rattle.layout.proofs.Laws.{few}
use Rattle.line_stages.specs.Cells.{cells_for}
use Rattle.lists.proofs.Laws.{over_then}
use Rattle.sheet.proofs.Laws.{both_count}
use lib.ListN.{length-append}
use mathlib.Core.List.{◌++◌}
use native.Mathlib.Omega.{arith}
use Rattle.sheet.proofs.put_front.Goals as goal

pub put-requires : goal.put-requires
put-requires c =
    omega (arith, c.requires.0, c.requires.1)

pub put_both-requires : goal.put_both-requires
put_both-requires c =
    omega (arith, c.requires.0)

pub overflow_mul-lines : goal.overflow_mul-lines
overflow_mul-lines c =
    omega (arith, c.lines.ensures, (few c.args.kind).lines)

pub overflow_add-lines : goal.overflow_add-lines
overflow_add-lines c =
    omega (arith, c.lines.ensures, (few c.args.kind).lines)

pub put_both-requires-2 : goal.put_both-requires-2
put_both-requires-2 c =
    omega (arith, c.lines.ensures, c.all-2-1.given, c.all-1.given, c.requires.0)

pub returns : goal.returns
returns c =
    let k = c.args.kind in
    let d = c.args.all.now in
    let e = c.args.entries.now in
    let lines = c.lines.ensures in
    let along = cells_for k c.args.eb ++ cells_for k c.args.wb in
    let across = cells_for k c.args.nb ++ cells_for k c.args.sb in
    let one = both_count k c.args.eb c.args.wb in
    let other = both_count k c.args.nb c.args.sb in
    over_then d 0 (e ++ along) across
    (over_then d 0 e along c.put.ensures c.put_both.ensures (omega (arith, c.requires.1)) (omega (arith, c.requires.0, one)))
    c.put_both-2.ensures (omega (arith, lines, c.requires.1, length-append e along, one)) (omega (arith, lines, c.requires.0, other))
