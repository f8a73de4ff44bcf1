-- Working definition: how the code's table is laid out.
use Rattle.std.specs.Prelude.{ℕ}
use Rattle.kinds.specs.declared.Group.{Group}
use Rattle.kinds.specs.declared.Group.TheVariants.{Left, Through, Right}

-- a group's row of the code's table
abbrev pub row_of : Group → ℕ
row_of Left = 0
row_of Through = 1
row_of Right = 2
