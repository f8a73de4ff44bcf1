-- "The lane factors are Table 5-2 there, typed in thousandths (one lane is 1,000); more lanes than it lists take its last factor."
use Rattle.std.specs.Prelude.{cond, ℕ, zero, suc, eqb}
use Rattle.kinds.specs.declared.Group.{Group}
use Rattle.kinds.specs.declared.Group.TheVariants.{Left, Through, Right}

-- the table's row of two lanes
abbrev pub two_lanes : Group → ℕ
two_lanes Left = 971
two_lanes Through = 952
two_lanes Right = 885

-- and of three or more
abbrev pub more_lanes : Group → ℕ
more_lanes Left = 971
more_lanes Through = 908
more_lanes Right = 885

-- without a lane there is no factor
unfoldable pub lane_factor : Group → ℕ → ℕ
lane_factor g zero = 0
lane_factor g (suc zero) = 1_000
lane_factor g (suc (suc zero)) = two_lanes g
lane_factor g (suc (suc (suc n))) = more_lanes g

-- Request Six, "its measured lane factor in thousandths, .. or 0 for the table's": it counts with any number of lanes
unfoldable pub factor_of : Group → ℕ → ℕ → ℕ
factor_of g n measured = cond (eqb measured 0) (lane_factor g n) measured
