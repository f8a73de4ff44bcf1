-- `text_times::put_decimal`. The whole ones, and what stands past them.
use Rattle.text_times.specs.Times.{second}
use Rattle.text.proofs.Laws.{length-decimal, placed_next}
use Prim.Native.Nat.{◌/◌}
use native.Mathlib.Omega.{arith}
use Rattle.text_times.proofs.put_decimal.Goals as goal

pub put_number-whole-requires : goal.put_number-whole-requires
put_number-whole-requires c = omega (arith, length-decimal (c.args.number / second))

pub put_fraction-requires : goal.put_fraction-requires
put_fraction-requires c =
    (omega arith, omega (arith, c.put_number-whole.ensures.next, length-decimal (c.args.number / second)))

pub returns : goal.returns
returns c =
    let p = c.put_number-whole.ensures in
    let q = c.put_fraction.ensures in
    let l = length-decimal (c.args.number / second) in
    (placed_next p q.0 (omega (arith, p.next, q.1)), omega (arith, p.next, q.1))
