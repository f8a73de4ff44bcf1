-- Where there is volume, each line follows from the one before it; where there is none, all are 0 by the zero rule.
use native.Mathlib.Omega.{arith}
use lib.Dec.{eqb}
use mathlib.Core.Bool.{false}
use mathlib.Core.Path.{◌≡◌}
use Prim.Native.Nat.{◌<◌, ◌≤◌}
use borrow.Author.Tests.{eq-eqb, ne_eqb}
use Rattle.kinds.specs.declared.Group.TheVariants.{Through}
use Rattle.procedure.specs.Lines.{v_c, v_ll, q, E, s_a}
use Rattle.units.specs.Unit.{whole}
use Rattle.line_bounds.proofs.Flows.{volumes, group_serving}
use Rattle.line_bounds.proofs.LeftLane.{heaviest_least, equivalent_room, share_within, carried}
use Rattle.line_left_lane.proofs.left_lane_of.Goals.{After-equivalent_of-equivalent, After-heaviest_lane-heaviest, After-share_of_lefts-share, Else-v-eq0}
use Rattle.line_left_lane.proofs.left_lane_of.Goals as goal

some : (d : Else-v-eq0) → 0 < v_c d.args.s
some d = omega (arith, rw d.requires.1 at d.if-v-eq0.false)

-- the zero rule does not apply
counts : (d : Else-v-eq0) → eqb (v_c d.args.s) 0 ≡ false
counts d = ne_eqb (v_c d.args.s) 0 (λ e. omega (arith, some d))

some-2 : (d : After-heaviest_lane-heaviest) → 0 < v_c d.args.s
some-2 d = omega (arith, rw d.requires.1 at d.if-v-eq0.false)

counts-2 : (d : After-heaviest_lane-heaviest) → eqb (v_c d.args.s) 0 ≡ false
counts-2 d = ne_eqb (v_c d.args.s) 0 (λ e. omega (arith, some-2 d))

heaviest_is : (d : After-heaviest_lane-heaviest) → d.heaviest_lane-heaviest.result.0 ≡ v_ll d.args.s
unfolding v_ll
heaviest_is d = rw (counts-2 d) (rw d.requires.1 at d.heaviest_lane-heaviest.ensures)

some-3 : (d : After-share_of_lefts-share) → 0 < v_c d.args.s
some-3 d = omega (arith, rw d.requires.1 at d.if-v-eq0.false)

counts-3 : (d : After-share_of_lefts-share) → eqb (v_c d.args.s) 0 ≡ false
counts-3 d = ne_eqb (v_c d.args.s) 0 (λ e. omega (arith, some-3 d))

heaviest_is-2 : (d : After-share_of_lefts-share) → d.heaviest_lane-heaviest.result.0 ≡ v_ll d.args.s
unfolding v_ll
heaviest_is-2 d = rw (counts-3 d) (rw d.requires.1 at d.heaviest_lane-heaviest.ensures)

share_is : (d : After-share_of_lefts-share) → d.share_of_lefts-share.result ≡ q d.args.s
unfolding q
share_is d =
    rw (counts-3 d, ← heaviest_is-2 d) (rw d.requires.1 at d.share_of_lefts-share.ensures)

share_whole : (d : After-share_of_lefts-share) → d.share_of_lefts-share.result ≤ whole
share_whole d =
    rw (share_is d) (carried d.args.s d.args.o d.args.cycle.0 d.requires.0 d.requires.4).share_most

some-4 : (d : After-equivalent_of-equivalent) → 0 < v_c d.args.s
some-4 d = omega (arith, rw d.requires.1 at d.if-v-eq0.false)

counts-4 : (d : After-equivalent_of-equivalent) → eqb (v_c d.args.s) 0 ≡ false
counts-4 d = ne_eqb (v_c d.args.s) 0 (λ e. omega (arith, some-4 d))

heaviest_is-3 : (d : After-equivalent_of-equivalent) → d.heaviest_lane-heaviest.result.0 ≡ v_ll d.args.s
unfolding v_ll
heaviest_is-3 d = rw (counts-4 d) (rw d.requires.1 at d.heaviest_lane-heaviest.ensures)

share_is-2 : (d : After-equivalent_of-equivalent) → d.share_of_lefts-share.result ≡ q d.args.s
unfolding q
share_is-2 d =
    rw (counts-4 d, ← heaviest_is-3 d) (rw d.requires.1 at d.share_of_lefts-share.ensures)

equivalent_is :
    (d : After-equivalent_of-equivalent)
    → d.equivalent_of-equivalent.result ≡ E d.args.s d.args.o
    d.args.cycle.0
unfolding E
equivalent_is d =
    rw (counts-4 d, ← share_is-2 d) (rw d.requires.3 at d.equivalent_of-equivalent.ensures)

pub returns-then-v-eq0 : goal.returns-then-v-eq0
unfolding v_ll q E s_a
returns-then-v-eq0 c =
    rw (eq-eqb (v_c c.args.s) 0 (rw c.requires.1 at c.if-v-eq0.true))

pub heaviest_lane-heaviest-requires : goal.heaviest_lane-heaviest-requires
heaviest_lane-heaviest-requires c =
    let v = volumes c.args.s c.requires.0 in
    rw c.requires.1 (v.foldedleft, v.through, c.requires.0.served Through (some (goal.at.heaviest_lane-heaviest-requires c).Else-v-eq0), (c.requires.0.group Through).lanes.most)

pub share_of_lefts-share-requires : goal.share_of_lefts-share-requires
share_of_lefts-share-requires c =
    let lane = carried c.args.s c.args.o c.args.cycle.0 c.requires.0 c.requires.4 in
    (rw c.heaviest_lane-heaviest.ensures (heaviest_least _ _ _), rw (heaviest_is (goal.at.share_of_lefts-share-requires c).After-heaviest_lane-heaviest) lane.heaviest_most)

pub equivalent_of-equivalent-requires : goal.equivalent_of-equivalent-requires
equivalent_of-equivalent-requires c =
    (share_whole (goal.at.equivalent_of-equivalent-requires c).After-share_of_lefts-share, rw c.requires.3 (share_within c.args.o), c.requires.4)

pub flow_a-flow-requires : goal.flow_a-flow-requires
flow_a-flow-requires c =
    let served = group_serving c.args.s c.requires.0 Through in
    let share = share_whole (goal.at.flow_a-flow-requires c).After-share_of_lefts-share in
    let met : c.args.m.share ≤ whole = rw c.requires.3 (share_within c.args.o) in
    let room = equivalent_room _ _ _ share met c.requires.4 in (
      rw c.requires.2 served.most,
      share,
      rw c.equivalent_of-equivalent.ensures room.least,
      rw c.equivalent_of-equivalent.ensures room.most,
      c.requires.0.served Through (some (goal.at.flow_a-flow-requires c).Else-v-eq0),
      rw c.requires.2 served.least,
    )

pub returns : goal.returns
unfolding s_a
returns c =
    rw (
      c.flow_a-flow.ensures,
      heaviest_is (goal.at.returns c).After-heaviest_lane-heaviest,
      share_is (goal.at.returns c).After-share_of_lefts-share,
      equivalent_is (goal.at.returns c).After-equivalent_of-equivalent,
      counts (goal.at.returns c).Else-v-eq0,
      c.requires.2,
    )
