use borrow.Author.Tests.{lt-leb, le-leb, eq-eqb, ne_eqb}
use Rattle.kinds.proofs.Kind.holds.Goals as goal

pub returns-then-value-limits : goal.returns-then-value-limits
returns-then-value-limits c = rw (← c.limits-limits.ensures.2, eq-eqb _ _ c.if-value-limits.true)

pub returns-then-value-limits-2 : goal.returns-then-value-limits-2
returns-then-value-limits-2 c =
    let is = c.limits-limits.ensures in
    rw (← is.2, ← is.0, ne_eqb _ _ c.if-value-limits.false, lt-leb _ _ c.if-value-limits-2.true)

pub returns : goal.returns
returns c =
    let is = c.limits-limits.ensures in
    rw (← is.2, ← is.0, ← is.1, ne_eqb _ _ c.if-value-limits.false, le-leb _ _ c.if-value-limits-2.false)
