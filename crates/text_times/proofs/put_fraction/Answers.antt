-- `text_times::put_fraction`. Nothing, or the point and the digits past it.
use Rattle.text_times.specs.Times.{fraction_text}
use Rattle.text.proofs.Laws.{placed_nothing, placed_after}
use borrow.Author.Tests.{eq-eqb, ne_eqb}
use native.Mathlib.Omega.{arith}
use Rattle.text_times.proofs.put_fraction.Goals as goal

pub returns-then-part-eq0 : goal.returns-then-part-eq0
unfolding fraction_text
returns-then-part-eq0 c = (rw (eq-eqb _ _ c.if-part-eq0.true) (placed_nothing _ _), omega arith)

pub returns : goal.returns
unfolding fraction_text
returns c =
    let p = c.put_byte-pointed.ensures in
    let q = c.put_decimals.ensures in
    (rw (ne_eqb _ _ c.if-part-eq0.false) (placed_after p q.0 (omega (arith, p.next))), omega (arith, p.next))
