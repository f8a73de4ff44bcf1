use Rattle.procedure.specs.Pairs.{right_total}
use borrow.Author.Tests.{eq-eqb, ne_eqb}
use Rattle.sheet_totals.proofs.right_total.Goals as goal

pub returns-then-lines-eq0 : goal.returns-then-lines-eq0
unfolding right_total
returns-then-lines-eq0 c = rw (eq-eqb _ _ c.if-lines-eq0.true)

pub returns-then-free-eq1 : goal.returns-then-free-eq1
unfolding right_total
returns-then-free-eq1 c = rw (ne_eqb _ _ c.if-lines-eq0.false, eq-eqb _ _ c.if-free-eq1.true)

pub returns : goal.returns
unfolding right_total
returns c =
    rw (ne_eqb _ _ c.if-lines-eq0.false, ne_eqb _ _ c.if-free-eq1.false)
