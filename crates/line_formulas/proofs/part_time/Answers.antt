use borrow.Author.Tests.{eq-eqb, ne_eqb}
use native.Mathlib.Omega.{arith}
use Rattle.line_bounds.proofs.Times.{held_most}
use Rattle.line_formulas.proofs.part_time.Goals as goal

pub returns-then-volume-eq0 : goal.returns-then-volume-eq0
returns-then-volume-eq0 c = rw (eq-eqb _ _ c.if-volume-eq0.true)

pub overflow_add-result : goal.overflow_add-result
overflow_add-result c =
    omega (arith, c.time_for.ensures, held_most c.args.held.0 c.requires.0 c.requires.1)

pub returns : goal.returns
returns c = rw (ne_eqb _ _ c.if-volume-eq0.false, c.time_for.ensures)
