-- Working definition: the interchange times of an approach, put into the struct that a side is made of.
use Rattle.std.specs.Prelude.{ℕ}
use Rattle.kinds.specs.declared.Group.TheVariants.{Left, Through, Right}
use Rattle.procedure.specs.declared.Approach.{Approach}
use Rattle.diamond_rules.specs.Lines.{t_ic}
use Rattle.diamond_sides.specs.declared.Served.{Served}

abbrev pub served_of : Approach → ℕ → Served
served_of s CL = record { left = t_ic s Left CL; through = t_ic s Through CL; right = t_ic s Right CL }
