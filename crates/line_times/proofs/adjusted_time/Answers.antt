use borrow.Author.Tests.{eq-eqb, ne_eqb}
use Rattle.line_times.proofs.adjusted_time.Goals as goal

pub returns-then-volume-eq0 : goal.returns-then-volume-eq0
returns-then-volume-eq0 c = rw (eq-eqb _ _ c.if-volume-eq0.true)

pub returns : goal.returns
returns c = rw (ne_eqb _ _ c.if-volume-eq0.false) c.adjust.ensures
