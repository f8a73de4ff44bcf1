-- One law gives all products their room; where nothing oncoming turns left and the lane has lefts alone or none, the quotient is known.
use Rattle.units.specs.Unit.{whole}
use Rattle.line_bounds.specs.Bounds.{most_equivalent}
use Rattle.line_bounds.proofs.LeftLane.{EquivalentRoom, equivalent_room, equivalent_alike}
use Rattle.procedure.specs.Lines.{equivalent}
use Rattle.units.proofs.Laws.{up_most}
use native.Mathlib.Nat.{mul-le-mul}
use native.Mathlib.Omega.{arith}
use Prim.Native.Nat.{◌*◌, ◌-◌, ◌≤◌}
use Rattle.line_left_lane.proofs.equivalent_of.Goals.{After-divide_up, Start}
use Rattle.line_left_lane.proofs.equivalent_of.Goals as goal

room : (s : Start) → EquivalentRoom s.args.share s.args.oncoming s.args.cycle.0
room s = equivalent_room s.args.share s.args.oncoming s.args.cycle.0 s.requires.0 s.requires.1 s.requires.2

rest : (s : Start) → s.args.share * (whole - s.args.share) ≤ whole * whole
rest s = mul-le-mul {n₂ = whole} {m₂ = whole} s.requires.0 (omega arith)

room-2 : (s : After-divide_up) → EquivalentRoom s.args.share s.args.oncoming s.args.cycle.0
room-2 s = equivalent_room s.args.share s.args.oncoming s.args.cycle.0 s.requires.0 s.requires.1 s.requires.2

most : (d : After-divide_up) → d.divide_up.result ≤ most_equivalent
most d = rw d.divide_up.ensures (up_most most_equivalent _ _ (omega (arith, room-2 d)))

pub overflow_mul-share : goal.overflow_mul-share
overflow_mul-share c = omega (arith, rest (goal.at.overflow_mul-share c).Start)

pub overflow_add-oncoming : goal.overflow_add-oncoming
overflow_add-oncoming c = omega (arith, rest (goal.at.overflow_add-oncoming c).Start)

pub returns-then-oncoming-share-eq0 : goal.returns-then-oncoming-share-eq0
returns-then-oncoming-share-eq0 c =
    rw (equivalent_alike c.args.share c.args.oncoming c.args.cycle.0 c.requires.0 c.if-oncoming-share-eq0.true)

pub overflow_mul-over-2 : goal.overflow_mul-over-2
overflow_mul-over-2 c = omega (arith, room (goal.at.overflow_mul-over-2 c).Start)

pub overflow_mul-over-3 : goal.overflow_mul-over-3
overflow_mul-over-3 c = omega (arith, room (goal.at.overflow_mul-over-3 c).Start)

pub overflow_sub-over : goal.overflow_sub-over
overflow_sub-over c = omega (arith, room (goal.at.overflow_sub-over c).Start)

pub overflow_mul-over-4 : goal.overflow_mul-over-4
overflow_mul-over-4 c = omega (arith, room (goal.at.overflow_mul-over-4 c).Start)

pub overflow_mul-under-2 : goal.overflow_mul-under-2
overflow_mul-under-2 c = omega (arith, room (goal.at.overflow_mul-under-2 c).Start)

pub overflow_add-under-2 : goal.overflow_add-under-2
overflow_add-under-2 c = omega (arith, room (goal.at.overflow_add-under-2 c).Start)

pub overflow_mul-under-3 : goal.overflow_mul-under-3
overflow_mul-under-3 c = omega (arith, room (goal.at.overflow_mul-under-3 c).Start)

pub divide_up-requires : goal.divide_up-requires
divide_up-requires c = omega (arith, room (goal.at.divide_up-requires c).Start)

pub overflow_cast-result : goal.overflow_cast-result
overflow_cast-result c = omega (arith, most (goal.at.overflow_cast-result c).After-divide_up)

pub returns : goal.returns
unfolding equivalent
returns c = c.divide_up.ensures
