-- Two ways to be no number, a number that is too large already, then a digit that is too much, and one that is not.
use Rattle.text_numbers.proofs.Laws.{digit_next}
use Rattle.text_numbers.specs.Numbers.{next_number}
use borrow.Author.Tests.{le-ltb, lt-leb, le-leb}
use native.Mathlib.Omega.{arith}
use Rattle.text_numbers.proofs.next_number.Goals as goal

pub returns-then-byte-lt48 : goal.returns-then-byte-lt48
unfolding next_number
returns-then-byte-lt48 c = (rw (lt-leb _ _ c.if-byte-lt48.true), omega arith)

pub returns-then-byte-gt57 : goal.returns-then-byte-gt57
unfolding next_number
returns-then-byte-gt57 c = (rw (le-leb _ _ c.if-byte-lt48.false, lt-leb _ _ c.if-byte-gt57.true), omega arith)

pub returns-then-number-ge-TOO_LARGE : goal.returns-then-number-ge-TOO_LARGE
unfolding next_number
returns-then-number-ge-TOO_LARGE c = (rw (le-leb _ _ c.if-byte-lt48.false, le-leb _ _ c.if-byte-gt57.false, le-ltb _ _ c.if-number-ge-TOO_LARGE.true), omega arith)

pub returns-then-next-ge-TOO_LARGE : goal.returns-then-next-ge-TOO_LARGE
returns-then-next-ge-TOO_LARGE c =
    let args = c.args in
    (rw (digit_next args.number args.byte (omega arith) (omega arith) (omega arith)) (omega arith), omega arith)

pub returns : goal.returns
returns c =
    let args = c.args in
    (rw (digit_next args.number args.byte (omega arith) (omega arith) (omega arith)) (omega arith), omega arith)
