-- `text_times::put_decimals`. One, two or three digits, one past the other.
use Rattle.text_times.specs.Times.{decimals}
use Rattle.text.proofs.Laws.{placed_next}
use borrow.Author.Tests.{eq-eqb, ne_eqb}
use native.Mathlib.Omega.{arith}
use Rattle.text_times.proofs.put_decimals.Goals as goal

pub returns-then-part-eq0 : goal.returns-then-part-eq0
unfolding decimals
returns-then-part-eq0 c =
    (rw (eq-eqb _ _ c.if-part-eq0.true) c.put_digit-tenths.ensures, omega (arith, c.put_digit-tenths.ensures.next))

pub returns-then-part-eq0-2 : goal.returns-then-part-eq0-2
unfolding decimals
returns-then-part-eq0-2 c =
    let p = c.put_digit-tenths.ensures in
    let q = c.put_digit-hundredths.ensures in (
      rw (ne_eqb _ _ c.if-part-eq0.false, eq-eqb _ _ c.if-part-eq0-2.true) (placed_next p q (omega arith)),
      omega (arith, p.next, q.next),
    )

pub returns : goal.returns
unfolding decimals
returns c =
    let p = c.put_digit-tenths.ensures in
    let q = c.put_digit-hundredths.ensures in
    let r = c.put_digit.ensures in (
      rw (ne_eqb _ _ c.if-part-eq0.false, ne_eqb _ _ c.if-part-eq0-2.false) (placed_next (placed_next p q (omega arith)) r (omega arith)),
      omega (arith, p.next, q.next, r.next),
    )
