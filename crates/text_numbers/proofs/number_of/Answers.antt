use borrow.Author.Tests.{eq-eqb, ne_eqb}
use Rattle.text_numbers.specs.Numbers.{number_of}
use Rattle.text_numbers.proofs.number_of.Goals as goal

pub returns-then-word-eq0 : goal.returns-then-word-eq0
unfolding number_of
returns-then-word-eq0 c = rw (eq-eqb _ _ c.if-word-eq0.true)

pub returns : goal.returns
unfolding number_of
returns c = rw (ne_eqb _ _ c.if-word-eq0.false) c.digits_of.ensures
