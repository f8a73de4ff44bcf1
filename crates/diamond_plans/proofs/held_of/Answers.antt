use Rattle.diamond_rules.specs.Lines.{held}
use Prim.Native.Nat.{◌*◌}
use Rattle.line_stages.specs.Stages.{ms}
use Rattle.line_bounds.proofs.Order.{larger}
use Rattle.diamond_plans.proofs.held_of.Goals as goal

pub returns : goal.returns
unfolding held
returns c = rw c.off_ramp.ensures at (larger c.off_ramp.result (ms (2 * c.args.travel.0.0)) c.max.ensures)
