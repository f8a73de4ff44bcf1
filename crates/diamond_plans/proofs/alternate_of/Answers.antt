use Rattle.diamond_rules.specs.Lines.{alternate}
use Rattle.diamond_plans.proofs.Laws.{ramp_most}
use native.Mathlib.Omega.{arith}
use Rattle.diamond_plans.proofs.alternate_of.Goals as goal

pub overflow_add-result : goal.overflow_add-result
overflow_add-result c =
    omega (arith, c.off_ramp.ensures, ramp_most _ c.requires, c.requires.inner)

pub returns : goal.returns
unfolding alternate
returns c = rw c.off_ramp.ensures
