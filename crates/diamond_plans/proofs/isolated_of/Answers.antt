-- Three small times, added.
use Rattle.diamond_rules.specs.Lines.{isolated}
use Rattle.line_bounds.proofs.Order.{larger}
use Rattle.diamond_plans.proofs.Laws.{entering_most}
use native.Mathlib.Omega.{arith}
use Rattle.diamond_plans.proofs.isolated_of.Goals as goal

pub overflow_add-result : goal.overflow_add-result
overflow_add-result c =
    omega (arith, c.entering_of.ensures, entering_most _ c.requires, c.requires.onramp)

pub overflow_add-result-2 : goal.overflow_add-result-2
overflow_add-result-2 c =
    let small = c.requires in
    omega (arith, c.entering_of.ensures, larger c.args.s.rampleft c.args.s.rampthrough c.max-ramp.ensures, entering_most _ small, small.onramp, small.rampleft, small.rampthrough)

pub returns : goal.returns
unfolding isolated
returns c = rw (c.entering_of.ensures, larger c.args.s.rampleft c.args.s.rampthrough c.max-ramp.ensures)
