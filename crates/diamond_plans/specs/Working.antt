-- Working definitions: how long a side's times are at most, and the plans put into their struct.
use Rattle.std.specs.Prelude.{Bool, ℕ, ◌≤◌}
use Rattle.line_bounds.specs.Bounds.{most_adjusted}
use Rattle.line_stages.specs.Stages.{ms}
use Rattle.diamond_rules.specs.declared.Side.{Side}
use Rattle.diamond_rules.specs.Lines.{leading_alternate, isolated_plan, if_allowed}
use Rattle.diamond_plans.specs.declared.Plans.{Plans}

-- no time of the side is longer than an adjusted time
pub record SmallSide (s : Side) : Type 0 where
  pub through : s.through.0 ≤ most_adjusted
  pub right : s.right.0 ≤ most_adjusted
  pub onramp : s.onramp.0 ≤ most_adjusted
  pub inner : s.inner.0 ≤ most_adjusted
  pub rampleft : s.rampleft.0 ≤ most_adjusted
  pub rampthrough : s.rampthrough.0 ≤ most_adjusted
  pub rampright : s.rampright.0 ≤ most_adjusted

abbrev pub plans_by : ℕ → Side → Side → Bool → Bool → Plans
plans_by t_t w e four two =
    record {
      leading = ms (leading_alternate t_t w e);
      lagging = ms (if_allowed four (isolated_plan w e));
      leadlag = ms (if_allowed two (isolated_plan w e));
    }
