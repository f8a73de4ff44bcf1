-- What the unit of a flow does, beside the rules that counted flows in whole vehicles: a flow of lines 5–9 is the one of then, cut finer;
-- what line 22 makes of it is no smaller; and a time by a flow that is no smaller is no longer.
use mathlib.Core.Path.{◌≡◌, refl}
use mathlib.Core.Bool.{Bool, true, false, cond}
use Prim.Native.Nat.{ℕ, zero, suc, ◌+◌, ◌-◌, ◌*◌, ◌/◌, ◌≤◌, ◌<◌}
use native.Mathlib.Nat.{div-div-eq-div-mul, div-zero, div-mul-le_self, le-div_iff_mul-le, mul_assoc, mul-le-mul_left, mul-le-mul_right}
use native.Mathlib.Omega.{arith}
use lib.Dec.{eqb}
use Rattle.units.specs.Rounding.{up}
use Rattle.units.specs.Unit.{flow_unit, whole}
use Rattle.units.proofs.Laws.{up_most, up_covers}
use Rattle.procedure.specs.Lines.{flow_of, flow_a, time}

pub whole_vehicles : (i n factor f : ℕ) → flow_of i n factor f / flow_unit ≡ cond (eqb n 0) 0 (i * n * factor * f / 10_000_000)
unfolding flow_of
whole_vehicles i n factor f = go (eqb n 0)
  where
    all : ℕ
    all = i * n * factor * f

    go : (none : Bool) → cond none 0 (all / (10_000_000 / flow_unit)) / flow_unit ≡ cond none 0 (all / 10_000_000)
    go true = refl
    go false = div-div-eq-div-mul all (10_000_000 / flow_unit) flow_unit

-- a share of a flow, down: cut before it is shared out, it is no larger
finer_share : (flow k m : ℕ) → flow_unit * (flow / flow_unit * k / m) ≤ flow * k / m
finer_share flow k zero = omega (arith, div-zero (flow / flow_unit * k))
finer_share flow k (suc m) =
    let old = flow / flow_unit * k / suc m in
    let cut : flow / flow_unit * flow_unit * k ≤ flow * k = mul-le-mul_right k (div-mul-le_self flow flow_unit) in
    (le-div_iff_mul-le {k = suc m} {x = flow_unit * old} {y = flow * k} (omega arith)).1
    (omega (arith, div-mul-le_self (flow / flow_unit * k) (suc m), mul_assoc flow_unit old (suc m), cut))

pub line_22_no_smaller : (flow q E n : ℕ) → flow_unit * flow_a (flow / flow_unit) q E n ≤ flow_a flow q E n
unfolding flow_a
line_22_no_smaller flow q E n = finer_share flow (1_000_000_000_000 / (100_000_000 + q * E - whole * q)) (n * whole)

pub no_longer : (v CL flow before : ℕ) → 0 < before → flow_unit * before ≤ flow → time v CL flow ≤ up (1000 * v * CL) before
unfolding time
no_longer v CL flow before some finer =
    let then = up (1000 * v * CL) before in
    up_most then (1000 * flow_unit * v * CL) flow (omega (arith, up_covers (1000 * v * CL) before some, mul-le-mul_left then finer))
