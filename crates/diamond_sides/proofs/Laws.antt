-- What an approach is served in, from its lines 1–18 and its free right.
use mathlib.Core.Path.{◌≡◌, ap}
use mathlib.Core.Bool.{cond}
use Prim.Native.Nat.{ℕ}
use Rattle.units.specs.declared.Ms.{Ms}
use Rattle.procedure.specs.declared.Approach.{Approach}
use Rattle.procedure.specs.Approach.{is_free}
use Rattle.line_stages.specs.declared.First.{First}
use Rattle.line_stages.specs.Stages.{first_of, ms}
use Rattle.diamond_rules.specs.Lines.{interchange}
use Rattle.diamond_sides.specs.declared.Served.{Served}
use Rattle.diamond_sides.specs.Working.{served_of}

abbrev pub served : First → Ms → Served
served x right = record { left = ms x.times.adjustedleft.0; through = ms x.times.adjustedthrough.0; right = right }

pub served_made : (s : Approach) (CL : ℕ) (x : First) (right : Ms) → x ≡ first_of s CL
    → right.0 ≡ cond (is_free s) 0 x.times.adjustedright.0 → served x right ≡ served_of s CL
unfolding interchange
served_made s CL x right first told = rw first (ap (served (first_of s CL)) (ap ms (rw first at told)))
