-- The lane of lefts alone carries its volume by the law of line 22; then it is the formula of line 23.
use Rattle.line_bounds.specs.Bounds.{most_volume}
use Rattle.line_bounds.proofs.Numbers.{shared_out}
use Rattle.line_bounds.proofs.LeftLane.{Carries, carries, equivalent_room}
use Rattle.units.specs.Unit.{whole}
use Prim.Native.Nat.{◌<◌, ◌≤◌}
use borrow.Author.Tests.{eq-eqb}
use native.Mathlib.Omega.{arith}
use Rattle.line_permitted.proofs.left_option_a.Goals.{After-flow_a-mixed, After-share_out, Else-volume-eq0}
use Rattle.line_permitted.proofs.left_option_a.Goals as goal

some : (d : Else-volume-eq0) → 0 < d.args.lanes.0
some d = d.requires.1 (omega (arith, d.if-volume-eq0.false))

some-2 : (d : After-share_out) → 0 < d.args.lanes.0
some-2 d = d.requires.1 (omega (arith, d.if-volume-eq0.false))

lane_most : (d : After-share_out) → d.share_out.result ≤ most_volume
lane_most d =
    omega (arith, d.share_out.ensures, shared_out d.args.volume.0 d.args.lanes.0 (some-2 d), d.requires.0.counted)

some-3 : (d : After-flow_a-mixed) → 0 < d.args.lanes.0
some-3 d = d.requires.1 (omega (arith, d.if-volume-eq0.false))

lane_most-2 : (d : After-flow_a-mixed) → d.share_out.result ≤ most_volume
lane_most-2 d =
    omega (arith, d.share_out.ensures, shared_out d.args.volume.0 d.args.lanes.0 (some-3 d), d.requires.0.counted)

-- the lane of lefts alone, beside the flow that it has
mixed : (d : After-flow_a-mixed) → Carries d.share_out.result d.flow_a-mixed.result.0
mixed d =
    let x = d.args in
    rw (d.flow_a-mixed.ensures, d.equivalent_of.ensures)
    (carries d.share_out.result x.flow.0 whole x.oncoming x.cycle.0 x.lanes.0 (lane_most-2 d)
    d.requires.0.most
    (omega arith) d.requires.3 d.requires.4 (some-3 d) d.requires.2)

pub returns-then-volume-eq0 : goal.returns-then-volume-eq0
returns-then-volume-eq0 c = rw (eq-eqb _ _ c.if-volume-eq0.true)

pub share_out-requires : goal.share_out-requires
share_out-requires c =
    let passes = c.requires.0 in
    (omega (arith, passes.counted, passes.most, c.requires.2), some (goal.at.share_out-requires c).Else-volume-eq0)

pub flow_a-mixed-requires : goal.flow_a-mixed-requires
flow_a-mixed-requires c =
    let room = equivalent_room whole c.args.oncoming c.args.cycle.0 (omega arith) c.requires.3 c.requires.4 in (
      c.requires.0.most,
      omega arith,
      rw c.equivalent_of.ensures room.least,
      rw c.equivalent_of.ensures room.most,
      some (goal.at.flow_a-mixed-requires c).Else-volume-eq0,
      c.requires.2,
    )

pub option_a_of-requires : goal.option_a_of-requires
option_a_of-requires c =
    let lane = mixed (goal.at.option_a_of-requires c).After-flow_a-mixed in
    record {
      lane_le_most_volume = (lane_most (goal.at.option_a_of-requires c).After-share_out, lane.serves, (λ some. omega (arith, lane.least)), lane.most);
      passes = (c.requires.0, omega arith);
    }

pub returns : goal.returns
returns c =
    rw (c.option_a_of.ensures, c.flow_a-mixed.ensures, c.equivalent_of.ensures, c.share_out.ensures)
