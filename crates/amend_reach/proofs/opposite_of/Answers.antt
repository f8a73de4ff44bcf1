use Rattle.sheet_cells.specs.Cells.{opposite}
use borrow.Author.Tests.{eq-eqb, ne_eqb}
use borrow.Author.Rules.{rules}
use Rattle.amend_reach.proofs.opposite_of.Goals as goal

pub returns-then-approach-eq0 : goal.returns-then-approach-eq0
unfolding opposite
returns-then-approach-eq0 c = (rw (eq-eqb _ _ c.if-approach-eq0.true), search rules)

pub returns-else-approach-eq0 : goal.returns-else-approach-eq0
unfolding opposite
returns-else-approach-eq0 c = (rw (ne_eqb _ _ c.if-approach-eq0.false), search rules)
