use borrow.Author.Rules.{rules}
use Rattle.amend_reach.specs.Reach.{approach_at}
use borrow.Author.Tests.{lt-ltb, le-ltb}
use Rattle.amend_reach.proofs.approach_at.Goals as goal

pub returns-then-entry-lt-APPROACHES_FROM : goal.returns-then-entry-lt-APPROACHES_FROM
unfolding approach_at
returns-then-entry-lt-APPROACHES_FROM c = (rw (lt-ltb _ _ c.if-entry-lt-APPROACHES_FROM.true), search rules)

pub returns : goal.returns
unfolding approach_at
returns c = (rw (le-ltb _ _ c.if-entry-lt-APPROACHES_FROM.false), search rules)
