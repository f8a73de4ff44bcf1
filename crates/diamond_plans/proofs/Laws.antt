-- A side whose times are small has small sums; and the plans are put into their struct.
use mathlib.Core.Path.{◌≡◌, ap}
use mathlib.Core.Bool.{Bool}
use Prim.Native.Nat.{ℕ, ◌≤◌}
use native.Mathlib.Omega.{arith}
use Rattle.kinds.specs.declared.Kind.TheVariants.{TravelTime}
use Rattle.kinds.specs.Kinds.{Within}
use Rattle.line_bounds.specs.Bounds.{most_adjusted}
use Rattle.diamond_rules.specs.declared.Side.{Side}
use Rattle.units.specs.declared.Ms.{Ms}
use Rattle.line_stages.specs.Stages.{ms}
use Rattle.diamond_rules.specs.Lines.{entering, off_ramp, held, leading_alternate, isolated_plan, if_allowed}
use Rattle.diamond_plans.specs.declared.Plans.{Plans}
use Rattle.diamond_plans.specs.Working.{SmallSide, plans_by}

pub entering_most : (s : Side) → SmallSide s → entering s ≤ most_adjusted
unfolding entering
entering_most s h = omega (arith, h.through, h.right)

pub ramp_most : (s : Side) → SmallSide s → off_ramp s ≤ most_adjusted
unfolding off_ramp
ramp_most s h = omega (arith, h.rampleft, h.rampthrough, h.rampright)

-- twice the travel time is less
pub held_most : (t_t : ℕ) (s : Side) → Within TravelTime t_t → SmallSide s → held t_t s ≤ most_adjusted
unfolding held
held_most t_t s t h = omega (arith, t.most, ramp_most s h)

abbrev pub plans : Ms → Ms → Ms → Plans
plans leading lagging leadlag = record { leading = leading; lagging = lagging; leadlag = leadlag }

pub plans_made : (t_t : ℕ) (w e : Side) (four two : Bool) (x y z : Ms) → x.0 ≡ leading_alternate t_t w e → y.0 ≡ if_allowed four (isolated_plan w e)
    → z.0 ≡ if_allowed two (isolated_plan w e) → plans x y z ≡ plans_by t_t w e four two
plans_made t_t w e four two x y z p q r =
    let first : x ≡ ms (leading_alternate t_t w e) = ap ms p in
    let second : y ≡ ms (if_allowed four (isolated_plan w e)) = ap ms q in
    let third : z ≡ ms (if_allowed two (isolated_plan w e)) = ap ms r in
    rw (first, second, third)
