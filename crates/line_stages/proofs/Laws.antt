-- The stages' cells are the lines.
use mathlib.Core.Path.{◌≡◌, refl}
use Prim.Native.Nat.{ℕ}
use Rattle.layout.specs.declared.Worksheet.{Worksheet}
use Rattle.layout.specs.declared.Worksheet.TheVariants.{Junction, Point}
use Rattle.procedure.specs.declared.Approach.{Approach}
use Rattle.procedure.specs.Lines.{first_lines, later_lines, lines, lines_for}
use Rattle.line_stages.specs.Stages.{lines_of}
use Rattle.line_stages.specs.Cells.{cells_for}

pub cells_are_lines : (k : Worksheet) (s o : Approach) (CL : ℕ) → cells_for k (lines_of k s o CL) ≡ lines_for k s o CL
unfolding lines first_lines later_lines lines_for
cells_are_lines Junction s o CL = refl
cells_are_lines Point s o CL = refl
