use Rattle.program_open.specs.Words.{office_of}
use borrow.Author.Tests.{le-leb, lt-leb}
use Rattle.program_open.proofs.office_of.Goals as goal

pub returns-then-number-ge-TOO_LARGE : goal.returns-then-number-ge-TOO_LARGE
unfolding office_of
returns-then-number-ge-TOO_LARGE c = rw (← c.number_of-number.ensures, le-leb _ _ c.if-number-ge-TOO_LARGE.true)

pub returns : goal.returns
unfolding office_of
returns c = rw (← c.number_of-number.ensures, lt-leb _ _ c.if-number-ge-TOO_LARGE.false)
