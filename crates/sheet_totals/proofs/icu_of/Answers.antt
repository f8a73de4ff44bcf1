-- `sheet_totals::icu_of`. The quotient is no more than what is divided, so it fits.
use Rattle.procedure.specs.Pairs.{icu_of}
use Rattle.units.specs.Rounding.{up}
use Rattle.units.proofs.Laws.{up_most}
use native.Mathlib.Omega.{arith}
use native.Mathlib.Nat.{mul-le-mul_left, mul-one}
use Prim.Native.Nat.{◌≤◌}
use Rattle.sheet_totals.proofs.icu_of.Goals.{Start}
use Rattle.sheet_totals.proofs.icu_of.Goals as goal

-- a quotient by a whole number is at most what is divided
most : (s : Start) → up s.args.required.0 s.args.cycle.0 ≤ s.args.required.0
most s =
    up_most s.args.required.0 s.args.required.0 s.args.cycle.0
    (omega (arith, mul-le-mul_left {m = 1} {n = s.args.cycle.0} s.args.required.0 (omega arith), mul-one s.args.required.0))

pub overflow_cast-result : goal.overflow_cast-result
overflow_cast-result c = omega (arith, most (goal.at.overflow_cast-result c).Start, c.divide_up.ensures)

pub returns : goal.returns
unfolding icu_of
returns c = c.divide_up.ensures
