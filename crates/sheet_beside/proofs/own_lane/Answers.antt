-- Lines 1 and 5 are the left group's own; by the laws of lines 21 and 22 a lane of lefts alone has room.
use Rattle.line_bounds.proofs.Flows.{volumes, group_serving}
use Rattle.line_bounds.proofs.LeftLane.{equivalent_room, share_within}
use Rattle.units.specs.Unit.{whole}
use Rattle.kinds.specs.declared.Group.TheVariants.{Left}
use Rattle.procedure.specs.Approach.{n}
use Rattle.procedure.specs.Lines.{volume, left_a}
use Rattle.sheet_beside.specs.Beside.{own_lane}
use Prim.Native.Nat.{◌<◌}
use borrow.Author.Tests.{eq-eqb, ne_eqb}
use native.Mathlib.Omega.{arith}
use Rattle.sheet_beside.proofs.own_lane.Goals.{Else-volumes-eq0}
use Rattle.sheet_beside.proofs.own_lane.Goals as goal

some : (d : Else-volumes-eq0) → 0 < volume d.args.s Left
some d = omega (arith, rw d.volumes_of-volumes.ensures at d.if-volumes-eq0.false)

served : (d : Else-volumes-eq0) → 0 < n d.args.s Left
served d = d.requires.0.served Left (some d)

pub returns-then-volumes-eq0 : goal.returns-then-volumes-eq0
unfolding own_lane
returns-then-volumes-eq0 c =
    rw (eq-eqb (volume c.args.s Left) 0 (rw c.volumes_of-volumes.ensures at c.if-volumes-eq0.true))

pub equivalent_of-equivalent-requires : goal.equivalent_of-equivalent-requires
equivalent_of-equivalent-requires c =
    (omega arith, rw c.meeting_of-share.ensures (share_within c.args.o), c.requires.2)

pub flow_a-carried-requires : goal.flow_a-carried-requires
flow_a-carried-requires c =
    let room = equivalent_room whole _ c.args.cycle.0 (omega arith) (share_within c.args.o) c.requires.2 in
    let flow = group_serving c.args.s c.requires.0 Left in
    rw (c.flows_of.ensures, c.equivalent_of-equivalent.ensures, c.meeting_of-share.ensures)
    (flow.most, omega arith, room.least, room.most, served (goal.at.flow_a-carried-requires c).Else-volumes-eq0, flow.least)

pub share_out-lane-requires : goal.share_out-lane-requires
share_out-lane-requires c =
    rw c.volumes_of-volumes.ensures
    (omega (arith, (volumes c.args.s c.requires.0).left, (c.requires.0.group Left).lanes.most), served (goal.at.share_out-lane-requires c).Else-volumes-eq0)

pub returns : goal.returns
unfolding own_lane left_a
returns c =
    rw (
      c.share_out-lane.ensures,
      c.flow_a-carried.ensures,
      c.flows_of.ensures,
      c.equivalent_of-equivalent.ensures,
      c.meeting_of-share.ensures,
      c.volumes_of-volumes.ensures,
      ne_eqb (volume c.args.s Left) 0 (rw c.volumes_of-volumes.ensures at c.if-volumes-eq0.false),
    )
