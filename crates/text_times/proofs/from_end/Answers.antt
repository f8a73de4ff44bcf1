use Rattle.text_times.specs.Times.{from_end}
use borrow.Author.Tests.{le-leb, lt-leb}
use Rattle.text_times.proofs.from_end.Goals as goal

pub returns-then-word-n : goal.returns-then-word-n
unfolding from_end
returns-then-word-n c = rw (lt-leb _ _ c.if-word-n.true)

pub returns : goal.returns
unfolding from_end
returns c = rw (le-leb _ _ c.if-word-n.false)
