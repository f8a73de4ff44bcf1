use Rattle.sheet_totals.proofs.picked_time.Goals as goal

pub returns : goal.returns
returns c = rw c.cells_of-cells.ensures at c.cell_at.ensures
