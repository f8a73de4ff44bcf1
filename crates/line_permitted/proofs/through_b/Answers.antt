-- `line_permitted::through_b`. No volume gives none; else what is taken off is at most the 8 seconds.
use native.Mathlib.Omega.{arith}
use borrow.Author.Tests.{eq-eqb, ne_eqb}
use Rattle.procedure.specs.Lines.{through_b}
use Rattle.line_bounds.proofs.Times.{passes_most}
use Rattle.line_bounds.proofs.Permitted.{waits_most}
use Rattle.line_permitted.proofs.through_b.Goals as goal

pub returns-then-straight-eq0 : goal.returns-then-straight-eq0
returns-then-straight-eq0 c = rw (eq-eqb _ _ c.if-straight-eq0.true)

pub overflow_add-result : goal.overflow_add-result
overflow_add-result c = omega (arith, c.time_for-clears.ensures, passes_most c.requires.0)

pub overflow_sub-result : goal.overflow_sub-result
overflow_sub-result c =
    omega (arith, waits_most c.args.beside.0 c.args.flow.0 c.requires.1)

pub overflow_add-result-2 : goal.overflow_add-result-2
overflow_add-result-2 c =
    omega (arith, c.time_for-clears.ensures, passes_most c.requires.0)

pub returns : goal.returns
unfolding through_b
returns c = rw (ne_eqb _ _ c.if-straight-eq0.false, c.time_for-clears.ensures)
