use borrow.Author.Tests.{eq-eqb, ne_eqb}
use native.Mathlib.Omega.{arith}
use Rattle.line_bounds.proofs.Times.{passes_most}
use Rattle.line_permitted.proofs.left_b.Goals as goal

pub returns-then-lefts-eq0 : goal.returns-then-lefts-eq0
returns-then-lefts-eq0 c = rw (eq-eqb _ _ c.if-lefts-eq0.true)

pub overflow_add-result : goal.overflow_add-result
overflow_add-result c = omega (arith, c.time_for.ensures, passes_most c.requires)

pub returns : goal.returns
returns c = rw (ne_eqb _ _ c.if-lefts-eq0.false, c.time_for.ensures)
