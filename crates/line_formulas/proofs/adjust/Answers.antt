use Rattle.procedure.specs.Lines.{adjusted_of}
use Rattle.line_bounds.proofs.Order.{larger}
use native.Mathlib.Omega.{arith}
use Rattle.line_formulas.proofs.adjust.Goals as goal

pub returns : goal.returns
unfolding adjusted_of
returns c = omega (arith, larger c.args.minimum c.args.reference c.max.ensures)

pub overflow_add-result : goal.overflow_add-result
overflow_add-result c = omega (arith, larger c.args.minimum c.args.reference c.max.ensures)
