use Rattle.diamond_rules.specs.Lines.{off_ramp}
use Rattle.line_bounds.proofs.Order.{larger}
use Rattle.diamond_plans.proofs.off_ramp.Goals as goal

pub returns : goal.returns
unfolding off_ramp
returns c = rw (larger c.args.s.rampleft c.args.s.rampthrough c.max.ensures) at (larger c.max.result c.args.s.rampright c.max-2.ensures)
