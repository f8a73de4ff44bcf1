-- `text_phrases::put_name`. The word of a row that the table has, or nothing.
use Rattle.text_names.proofs.Laws.{length_word}
use Rattle.text.proofs.Laws.{placed_nothing}
use Rattle.text_phrases.specs.Phrases.{name_in}
use borrow.Author.Tests.{lt-ltb, le-ltb}
use native.Mathlib.Omega.{arith}
use Rattle.text_phrases.proofs.put_name.Goals as goal

pub returns-then-row-lt-WORDS : goal.returns-then-row-lt-WORDS
unfolding name_in
returns-then-row-lt-WORDS c = (
  rw (lt-ltb _ _ c.if-row-lt-WORDS.true) c.put_word.ensures,
  omega (arith, c.put_word.ensures.next, length_word c.args.row),
)

pub returns : goal.returns
unfolding name_in
returns c = (rw (le-ltb _ _ c.if-row-lt-WORDS.false) (placed_nothing _ _), omega arith)
