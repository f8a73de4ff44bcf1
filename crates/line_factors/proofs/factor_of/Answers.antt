-- The table's factor where none was measured, else the measured one.
use borrow.Author.Tests.{eq-eqb, ne_eqb}
use borrow.Author.Rules.{rules}
use Rattle.line_factors.specs.Factors.{factor_of}
use Rattle.line_factors.proofs.factor_of.Goals as goal

pub returns-then-measured-eq0 : goal.returns-then-measured-eq0
unfolding factor_of
returns-then-measured-eq0 c = rw (eq-eqb _ _ c.if-measured-eq0.true) c.lane_factor.ensures

pub returns : goal.returns
unfolding factor_of
returns c = rw (ne_eqb _ _ c.if-measured-eq0.false) (search rules)
