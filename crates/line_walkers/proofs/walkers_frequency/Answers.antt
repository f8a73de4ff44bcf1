-- `line_walkers::walkers_frequency`. Nobody walking, no button, and the decay number, whose argument fits.
use Rattle.line_bounds.proofs.Times.{walked_room}
use borrow.Author.Tests.{eq-eqb, ne_eqb}
use native.Mathlib.Omega.{arith}
use Rattle.procedure.specs.Lines.{frequency}
use Rattle.line_walkers.proofs.walkers_frequency.Goals as goal

pub returns-then-p-eq0 : goal.returns-then-p-eq0
unfolding frequency
returns-then-p-eq0 c = rw (eq-eqb _ _ c.if-p-eq0.true)

pub returns-then-button-ne1 : goal.returns-then-button-ne1
unfolding frequency
returns-then-button-ne1 c = rw (ne_eqb _ _ c.if-p-eq0.false, ne_eqb _ _ c.if-button-ne1.true)

pub overflow_mul-p-2 : goal.overflow_mul-p-2
overflow_mul-p-2 c = record { fits = walked_room _ _ (omega arith) (omega arith) }

pub returns : goal.returns
unfolding frequency
returns c =
    rw (ne_eqb _ _ c.if-p-eq0.false, eq-eqb _ _ c.if-button-ne1.false)
    (cc)
