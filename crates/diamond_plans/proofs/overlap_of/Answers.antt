use Rattle.diamond_rules.specs.Lines.{overlap}
use Rattle.line_bounds.proofs.Order.{smaller}
use Rattle.diamond_plans.proofs.overlap_of.Goals as goal

pub returns : goal.returns
unfolding overlap
returns c = rw c.entering_of.ensures at (smaller c.args.travel.0 c.entering_of.result c.min.ensures)
