-- Lines 1–18 are put; on a junction's sheet the others follow them, which is putting them joined.
use Rattle.line_stages.specs.Cells.{first_cells, later_cells}
use Rattle.layout.proofs.Laws.{few}
use Rattle.lists.proofs.Laws.{over_then}
use native.Mathlib.Omega.{arith}
use Rattle.sheet.proofs.put_lines.Goals as goal

pub put-requires : goal.put-requires
put-requires c = rw c.first_cells.ensures (omega (arith, (few c.args.kind).least, c.requires))

pub put-requires-in-Junction : goal.put-requires-in-Junction
put-requires-in-Junction c =
    rw c.later_cells.ensures (omega (arith, rw c.in-Junction.is at c.requires))

pub returns-in-Junction : goal.returns-in-Junction
returns-in-Junction c =
    let a = c.args in
    rw c.in-Junction.is
    (over_then a.all.now a.at (first_cells a.lines.first) (later_cells a.lines.later) (rw c.first_cells.ensures at c.put.ensures)
    (rw c.later_cells.ensures at c.put-in-Junction.ensures)
    (omega arith) (omega (arith, rw c.in-Junction.is at c.requires)))

pub returns-in_default : goal.returns-in_default
returns-in_default c = rw (c.in_default.is, ← c.first_cells.ensures) c.put.ensures
