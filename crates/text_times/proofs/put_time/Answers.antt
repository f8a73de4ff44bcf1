-- `text_times::put_time`. The seconds with what stands past them, and the unit.
use Rattle.text_times.specs.Times.{time_text}
use Rattle.text.proofs.Laws.{placed_next}
use native.Mathlib.Omega.{arith}
use Rattle.text_times.proofs.put_time.Goals as goal

pub returns : goal.returns
unfolding time_text
returns c =
    let p = c.put_decimal-end.ensures in
    let r = c.put_byte.ensures in
    (placed_next p.0 r (omega (arith, p.1, r.next)), omega (arith, p.1, r.next))
