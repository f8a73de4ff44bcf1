-- The lines of a sheet of any kind are the first of all 28.
use mathlib.Core.Path.{◌≡◌, refl}
use Prim.Native.Nat.{ℕ}
use lib.ListN.{take}
use Rattle.layout.specs.declared.Worksheet.{Worksheet}
use Rattle.layout.specs.declared.Worksheet.TheVariants.{Junction, Point}
use Rattle.layout.specs.Sheet.{line_count}
use Rattle.procedure.specs.declared.Approach.{Approach}
use Rattle.procedure.specs.Lines.{first_lines, later_lines, lines, lines_for}

pub lines_front : (k : Worksheet) (s o : Approach) (CL : ℕ) → lines_for k s o CL ≡ take (line_count k) (lines s o CL)
unfolding lines_for lines first_lines later_lines
lines_front Junction s o CL = refl
lines_front Point s o CL = refl
