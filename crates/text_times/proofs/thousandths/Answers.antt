use Rattle.text_times.specs.Times.{thousandths}
use borrow.Author.Tests.{lt-ltb, le-ltb}
use Rattle.text_times.proofs.thousandths.Goals as goal

pub returns-then-number-ge-TOO_LARGE : goal.returns-then-number-ge-TOO_LARGE
unfolding thousandths
returns-then-number-ge-TOO_LARGE c = rw (← c.number_of-number.ensures, le-ltb _ _ c.if-number-ge-TOO_LARGE.true)

pub returns : goal.returns
unfolding thousandths
returns c = rw (← c.number_of-number.ensures, lt-ltb _ _ c.if-number-ge-TOO_LARGE.false) c.scaled.ensures
