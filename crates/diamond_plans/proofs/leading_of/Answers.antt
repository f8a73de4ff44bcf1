-- Each sum is of small times, and each overlap is no longer than the ramp is held before it.
use Rattle.diamond_rules.specs.Lines.{leading_alternate}
use Rattle.diamond_rules.proofs.Plans.{overlap-held}
use Rattle.diamond_plans.proofs.Laws.{entering_most, held_most}
use native.Mathlib.Omega.{arith}
use Rattle.diamond_plans.proofs.leading_of.Goals as goal

pub overflow_add-west : goal.overflow_add-west
overflow_add-west c =
    let w = c.requires.1 in
    omega (arith, c.entering_of.ensures, c.held_of.ensures, entering_most _ w, held_most _ _ c.requires.0 w)

pub overflow_sub-west : goal.overflow_sub-west
overflow_sub-west c =
    let a = c.args in
    omega (arith, c.held_of.ensures, c.overlap_of.ensures, overlap-held a.travel.0.0 a.e a.w)

pub overflow_add-result : goal.overflow_add-result
overflow_add-result c =
    omega (
      arith,
      c.entering_of.ensures,
      c.held_of.ensures,
      c.entering_of-2.ensures,
      entering_most _ c.requires.1,
      held_most _ _ c.requires.0 c.requires.1,
      entering_most _ c.requires.2,
    )

pub overflow_add-result-2 : goal.overflow_add-result-2
overflow_add-result-2 c =
    omega (
      arith,
      c.entering_of.ensures,
      c.held_of.ensures,
      c.entering_of-2.ensures,
      c.held_of-2.ensures,
      entering_most _ c.requires.1,
      held_most _ _ c.requires.0 c.requires.1,
      entering_most _ c.requires.2,
      held_most _ _ c.requires.0 c.requires.2,
    )

pub overflow_sub-result : goal.overflow_sub-result
overflow_sub-result c =
    let a = c.args in
    omega (arith, c.held_of-2.ensures, c.overlap_of-2.ensures, overlap-held a.travel.0.0 a.w a.e)

pub returns : goal.returns
unfolding leading_alternate
returns c =
    rw (
      c.entering_of.ensures,
      c.held_of.ensures,
      c.overlap_of.ensures,
      c.entering_of-2.ensures,
      c.held_of-2.ensures,
      c.overlap_of-2.ensures,
    )
