use borrow.Author.Tests.{eq-eqb, ne_eqb}
use Rattle.diamond_sides.proofs.unless_free.Goals as goal

pub returns-then-free-eq1 : goal.returns-then-free-eq1
returns-then-free-eq1 c = rw (eq-eqb _ _ c.if-free-eq1.true)

pub returns : goal.returns
returns c = rw (ne_eqb _ _ c.if-free-eq1.false)
