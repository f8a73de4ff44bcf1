-- Working definitions: what the weighted formula makes of an approach whose F is told.
use Rattle.std.specs.Prelude.{cond, ℕ}
use Rattle.kinds.specs.declared.Group.TheVariants.{Through}
use Rattle.procedure.specs.declared.Approach.{Approach}
use Rattle.procedure.specs.Approach.{lost, green, crossing}
use Rattle.procedure.specs.Lines.{weighted_of, crossed}

-- of a reference time
abbrev pub weighed_by : Approach → ℕ → ℕ → ℕ
weighed_by s F reference = weighted_of (lost s Through) (green s Through) (crossing s) F reference

-- where nobody drives
abbrev pub nobody_by : Approach → ℕ → ℕ
nobody_by s F = cond (crossed s) (weighed_by s F 0) 0
