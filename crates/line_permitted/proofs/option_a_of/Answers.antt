-- Where the heaviest lane is the slower one its time is the larger; else the larger of both is taken.
use Rattle.procedure.specs.Lines.{option_a_of}
use Rattle.line_bounds.specs.Bounds.{most_mixed_served}
use Rattle.line_bounds.proofs.Times.{time_at_most}
use Rattle.line_bounds.proofs.Permitted.{time_least}
use borrow.Author.Tests.{eq-eqb, ne_eqb}
use Prim.Native.Nat.{◌+◌}
use Rattle.line_stages.specs.Stages.{ms}
use native.Mathlib.Nat.{mul-le-mul}
use native.Mathlib.Omega.{arith}
use Rattle.line_bounds.proofs.Order.{larger}
use Rattle.line_permitted.proofs.option_a_of.Goals as goal

pub returns-then-volume-eq0 : goal.returns-then-volume-eq0
returns-then-volume-eq0 c = rw (eq-eqb _ _ c.if-volume-eq0.true)

pub overflow_add-delayed : goal.overflow_add-delayed
overflow_add-delayed c =
    let most = time_at_most most_mixed_served c.args.lane.0 c.args.cycle.0 c.args.mixed.0 c.requires.passes.0.cycle c.requires.lane_le_most_volume.1 in
    omega (arith, c.time_for.ensures, most, c.requires.passes.1)

pub overflow_mul-volume : goal.overflow_mul-volume
overflow_mul-volume c =
    omega (arith, mul-le-mul c.requires.passes.0.counted c.requires.lane_le_most_volume.3)

pub overflow_mul-lane : goal.overflow_mul-lane
overflow_mul-lane c =
    omega (arith, mul-le-mul c.requires.lane_le_most_volume.0 c.requires.passes.0.most)

pub returns-then-volume-mixed : goal.returns-then-volume-mixed
unfolding option_a_of
returns-then-volume-mixed c =
    let some = c.if-volume-eq0.false in
    let x = c.args in
    let shorter = time_least x.volume.0 x.lane.0 x.flow.0 x.mixed.0 x.cycle.0 (c.requires.lane_le_most_volume.2 (omega arith)) c.if-volume-mixed.true in
    rw (ne_eqb _ _ some) (omega (arith, c.time_for.ensures, shorter))

pub returns : goal.returns
unfolding option_a_of
returns c =
    rw (ne_eqb _ _ c.if-volume-eq0.false, larger (ms (c.time_for.result.0 + c.args.held.0)) c.time_for-2.result c.max.ensures, c.time_for-2.ensures, c.time_for.ensures)
