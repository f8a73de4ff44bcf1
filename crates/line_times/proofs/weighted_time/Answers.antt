use native.Mathlib.Omega.{arith}
use borrow.Author.Tests.{eq-eqb, ne_eqb}
use Rattle.line_times.proofs.weighted_time.Goals as goal

pub weigh_nobody-requires : goal.weigh_nobody-requires
weigh_nobody-requires c = (c.requires.0, c.requires.1)

pub returns-then-volume-eq0 : goal.returns-then-volume-eq0
returns-then-volume-eq0 c = rw (eq-eqb _ _ c.if-volume-eq0.true) c.weigh_nobody.ensures

pub weigh-requires : goal.weigh-requires
weigh-requires c = (c.requires.0, c.requires.1, omega arith)

pub returns : goal.returns
returns c = rw (ne_eqb _ _ c.if-volume-eq0.false) c.weigh.ensures
