-- `text_quotes::put_rest_mark`. Nothing, or the two points.
use Rattle.text_quotes.specs.Quotes.{rest_mark}
use Rattle.text.specs.Text.{ascii}
use Rattle.text.proofs.Laws.{placed_nothing}
use borrow.Author.Tests.{lt-ltb, le-ltb}
use native.Mathlib.Omega.{arith}
use Rattle.text_quotes.proofs.put_rest_mark.Goals as goal

pub returns-then-word-le-SHOWN_MOST : goal.returns-then-word-le-SHOWN_MOST
unfolding rest_mark
returns-then-word-le-SHOWN_MOST c = (rw (le-ltb _ _ c.if-word-le-SHOWN_MOST.true) (placed_nothing _ _), omega arith)

pub returns : goal.returns
unfolding rest_mark ascii
returns c =
    let put = c.put_bytes.ensures in
    (rw (lt-ltb _ _ c.if-word-le-SHOWN_MOST.false) put, omega (arith, put.next))
