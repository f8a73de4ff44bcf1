use borrow.Author.Tests.{lt-leb, le-leb}
use Rattle.text_quotes.proofs.shown_byte.Goals as goal

pub returns-then-byte-lt-FIRST_SIGN : goal.returns-then-byte-lt-FIRST_SIGN
returns-then-byte-lt-FIRST_SIGN c = rw (lt-leb _ _ c.if-byte-lt-FIRST_SIGN.true)

pub returns-then-byte-gt126 : goal.returns-then-byte-gt126
returns-then-byte-gt126 c = rw (le-leb _ _ c.if-byte-lt-FIRST_SIGN.false, lt-leb _ _ c.if-byte-gt126.true)

pub returns : goal.returns
returns c = rw (le-leb _ _ c.if-byte-lt-FIRST_SIGN.false, le-leb _ _ c.if-byte-gt126.false)
