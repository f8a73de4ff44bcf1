use Rattle.sheet_cells.specs.Cells.{sheet_answer}
use borrow.Author.Tests.{eq-eqb, ne_eqb}
use Rattle.sheet_cells.proofs.check_sheet.Goals as goal

pub returns-then-sheet-cells : goal.returns-then-sheet-cells
unfolding sheet_answer
returns-then-sheet-cells c = rw (← c.cells.ensures, ne_eqb _ _ c.if-sheet-cells.true)

pub returns : goal.returns
unfolding sheet_answer
returns c = rw (← c.cells.ensures, eq-eqb _ _ c.if-sheet-cells.false)
