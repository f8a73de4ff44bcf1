use Rattle.diamond_rules.specs.Lines.{entering}
use Rattle.line_bounds.proofs.Order.{larger}
use Rattle.diamond_plans.proofs.entering_of.Goals as goal

pub returns : goal.returns
unfolding entering
returns c = larger c.args.s.through c.args.s.right c.max.ensures
