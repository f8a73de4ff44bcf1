use borrow.Author.Tests.{lt-ltb, le-ltb}
use Rattle.procedure.specs.Lines.{allowed_a}
use Rattle.line_meeting.proofs.is_a_allowed.Goals as goal

pub returns-then-s-lt60 : goal.returns-then-s-lt60
unfolding allowed_a
returns-then-s-lt60 c = rw (lt-ltb _ _ c.if-s-lt60.true)

pub returns-else-s-lt60 : goal.returns-else-s-lt60
unfolding allowed_a
returns-else-s-lt60 c = rw (le-ltb _ _ c.if-s-lt60.false) c.is_single.ensures
