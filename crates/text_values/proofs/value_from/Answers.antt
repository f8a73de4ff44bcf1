use Rattle.text_values.specs.Values.{value_from}
use borrow.Author.Tests.{eq-eqb, ne_eqb, lt-ltb, le-ltb}
use Rattle.text_values.proofs.value_from.Goals as goal

pub returns-then-number-lt-TOO_LARGE : goal.returns-then-number-lt-TOO_LARGE
unfolding value_from
returns-then-number-lt-TOO_LARGE c = rw (lt-ltb _ _ c.if-number-lt-TOO_LARGE.true)

pub returns-then-number-eq-TOO_LARGE : goal.returns-then-number-eq-TOO_LARGE
unfolding value_from
returns-then-number-eq-TOO_LARGE c = rw (le-ltb _ _ c.if-number-lt-TOO_LARGE.false, eq-eqb _ _ c.if-number-eq-TOO_LARGE.true)

pub returns : goal.returns
unfolding value_from
returns c = rw (le-ltb _ _ c.if-number-lt-TOO_LARGE.false, ne_eqb _ _ c.if-number-eq-TOO_LARGE.false)
