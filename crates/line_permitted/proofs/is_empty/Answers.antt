use borrow.Author.Tests.{eq-eqb, ne_eqb}
use Rattle.procedure.specs.Lines.{empty}
use Rattle.line_permitted.proofs.is_empty.Goals as goal

pub returns-then-v-eq0 : goal.returns-then-v-eq0
unfolding empty
returns-then-v-eq0 c = rw (eq-eqb _ _ (rw c.requires at c.if-v-eq0.true), c.requires)

pub returns-else-v-eq0 : goal.returns-else-v-eq0
unfolding empty
returns-else-v-eq0 c = rw (c.requires, ne_eqb _ _ (rw c.requires at c.if-v-eq0.false))
