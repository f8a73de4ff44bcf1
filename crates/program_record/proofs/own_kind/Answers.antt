use borrow.Author.Tests.{lt-ltb, le-ltb}
use Rattle.program_record.proofs.own_kind.Goals as goal

pub returns-then-k : goal.returns-then-k
returns-then-k c = rw (lt-ltb _ _ c.if-k.true)

pub returns : goal.returns
returns c = rw (le-ltb _ _ c.if-k.false)
