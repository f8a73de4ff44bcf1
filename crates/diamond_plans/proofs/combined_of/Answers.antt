use Rattle.diamond_rules.specs.Lines.{combined}
use Rattle.line_bounds.proofs.Order.{larger}
use Rattle.diamond_plans.proofs.combined_of.Goals as goal

pub returns : goal.returns
unfolding combined
returns c = rw (c.isolated_of.ensures, c.alternate_of.ensures) at (larger c.isolated_of.result c.alternate_of.result c.max.ensures)
