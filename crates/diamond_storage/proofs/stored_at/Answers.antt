-- Each storage has the left of its own junction and approach.
use Rattle.diamond_rules.specs.Lines.{stored}
use native.Mathlib.Omega.{arith}
use mathlib.Core.Path.{◌≡◌}
use Rattle.diamond_storage.proofs.stored_at.Goals as goal

pub returns-in-0 : goal.returns-in-0
unfolding stored
returns-in-0 c = (rw (c.in-0.is, c.left_of.ensures.0, c.west.ensures.0), c.left_of.ensures.1)

pub returns-in-1 : goal.returns-in-1
unfolding stored
returns-in-1 c = (rw (c.in-1.is, c.left_of-in-1.ensures.0, c.east.ensures.0), c.left_of-in-1.ensures.1)

pub returns-in-2 : goal.returns-in-2
unfolding stored
returns-in-2 c = (rw (c.in-2.is, c.left_of-in-2.ensures.0, c.west-in-2.ensures.0), c.left_of-in-2.ensures.1)

pub returns-in_default : goal.returns-in_default
unfolding stored
returns-in_default c =
    let e : c.args.place ≡ 3 = omega arith in
    (rw (e, c.left_of-in_default.ensures.0, c.east-in_default.ensures.0), c.left_of-in_default.ensures.1)
