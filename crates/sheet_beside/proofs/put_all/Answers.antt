-- The sheet and what stands beside it are put one after the other.
use Rattle.entries.proofs.Laws.{as_junction, accepted_count}
use Rattle.layout.specs.Sheet.{sheet_count}
use Rattle.lists.proofs.Laws.{over_then}
use Rattle.procedure.specs.Sheet.{sheet_for}
use Rattle.sheet_cells.proofs.Cells.{sheet_length}
use Rattle.sheet_beside.specs.Beside.{beside}
use Rattle.sheet_beside.proofs.Laws.{all_length}
use lib.ListN.{length, length-append}
use mathlib.Core.Path.{◌≡◌}
use native.Mathlib.Omega.{arith}
use Rattle.sheet_beside.proofs.put_all.Goals.{Start}
use Rattle.sheet_beside.proofs.put_all.Goals as goal

-- the cells are as many as a sheet has
sized : (s : Start) → length s.args.cells.now ≡ sheet_count s.args.kind
sized s =
    let e = s.args.entries.now in
    rw s.requires.1 (sheet_length s.args.kind e (accepted_count e (as_junction s.args.kind e s.requires.0)))

pub put-requires : goal.put-requires
put-requires c =
    omega (arith, sized (goal.at.put-requires c).Start, c.requires.2)

pub put_each-requires : goal.put_each-requires
put_each-requires c =
    (c.requires.0, sized (goal.at.put_each-requires c).Start, omega (arith, c.all-1.given, c.requires.2))

pub returns : goal.returns
returns c =
    let k = c.args.kind in
    let e = c.args.entries.now in
    let cells = sheet_for k e in
    let long : length cells ≡ sheet_count k = rw c.requires.1 at (sized (goal.at.returns c).Start) in
    over_then c.args.all.now 0 cells (beside k e) (rw c.requires.1 at c.put.ensures) (rw c.requires.1 at c.put_each.ensures)
    (omega (arith, long)) (omega (arith, c.requires.2, long, all_length k e long, length-append cells (beside k e)))
