use borrow.Author.Tests.{lt-ltb, le-ltb}
use Rattle.text_refusals.proofs.approach_row.Goals as goal

pub returns-then-approach : goal.returns-then-approach
returns-then-approach c = rw (lt-ltb _ _ c.if-approach.true)

pub returns : goal.returns
returns c = rw (le-ltb _ _ c.if-approach.false)
