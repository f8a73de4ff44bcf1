-- The ends are passed so far, and those that are left as they will be.
use Rattle.sheet_totals.proofs.Letters.{end_ahead, end_behind}
use Rattle.procedure.specs.Pairs.{ends_passed}
use lib.ListN.{drop, drop_of_length-le}
use native.Mathlib.Omega.{arith}
use mathlib.Core.Path.{◌≡◌}
use Rattle.sheet_totals.proofs.passed.Goals as goal

pub loop-i-init : goal.loop-i-init
loop-i-init c = omega arith

pub returns-then-number-end : goal.returns-then-number-end
returns-then-number-end c =
    omega (arith, c.loop-i.invariant, end_ahead c.args.ends.now c.args.number c.loop-i.i (omega arith) c.if-number-end.true)

pub loop-i-preserved : goal.loop-i-preserved
loop-i-preserved c =
    omega (arith, c.loop-i.invariant, end_behind c.args.ends.now c.args.number c.loop-i.i (omega arith) c.if-number-end.false)

pub returns : goal.returns
unfolding ends_passed
returns c =
    let none : ends_passed (drop c.loop-i.i c.args.ends.now) c.args.number ≡ 0 =
    rw (drop_of_length-le c.args.ends.now {i = c.loop-i.i} (omega arith)) in
    omega (arith, c.loop-i.invariant, none)
