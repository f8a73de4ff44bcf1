-- `diamond_beside::put_sheets`. Both junctions are acceptable; their sheets are put one after the other.
use Rattle.lists.proofs.Laws.{over_then}
use Rattle.diamond_beside.proofs.Laws.{west-sheet, east-sheet}
use native.Mathlib.Omega.{arith}
use Rattle.diamond_beside.proofs.put_sheets.Goals as goal

pub put_sheet-requires : goal.put_sheet-requires
put_sheet-requires c = (c.west.ensures.1, omega arith)

pub put_sheet-requires-2 : goal.put_sheet-requires-2
put_sheet-requires-2 c = (c.east.ensures.1, omega arith)

pub returns : goal.returns
returns c =
    let given = c.args.given in
    let one = rw c.west.ensures.0 at c.put_sheet.ensures in
    let two = rw c.east.ensures.0 at c.put_sheet-2.ensures in
    over_then c.args.all.now 0 _ _ one two (omega (arith, west-sheet given.numbers.now given.accepted))
    (omega (arith, east-sheet given.numbers.now given.accepted))
