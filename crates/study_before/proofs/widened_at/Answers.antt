-- Past the movements all stand in the same order; a measured factor is none; every other entry is its movement's of before.
use borrow.Author.Tests.{lt-ltb, le-ltb, eq-eqb, ne_eqb}
use borrow.Author.Rules.{rules}
use Rattle.study_before.specs.Before.{widened_at}
use Rattle.study_before.proofs.widened_at.Goals as goal

pub returns-then-i-ge-APPROACHES_FROM : goal.returns-then-i-ge-APPROACHES_FROM
unfolding widened_at
returns-then-i-ge-APPROACHES_FROM c = simp (le-ltb _ _ c.if-i-ge-APPROACHES_FROM.true) (search rules)

pub returns-then-number-eq-FACTOR_NO : goal.returns-then-number-eq-FACTOR_NO
unfolding widened_at
returns-then-number-eq-FACTOR_NO c = simp (lt-ltb _ _ c.if-i-ge-APPROACHES_FROM.false, eq-eqb _ _ c.if-number-eq-FACTOR_NO.true)

pub returns : goal.returns
unfolding widened_at
returns c = simp (lt-ltb _ _ c.if-i-ge-APPROACHES_FROM.false, ne_eqb _ _ c.if-number-eq-FACTOR_NO.false) (search rules)
