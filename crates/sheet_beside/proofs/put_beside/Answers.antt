-- What is added is put past the lane, and ends where the numbers of the approach do.
use Rattle.entries.specs.Layout.{cycle}
use Rattle.procedure.specs.Approach.{read_approach}
use Rattle.lists.proofs.Laws.{over_then}
use Rattle.sheet_beside.specs.Beside.{lane_for, added, beside_at}
use Rattle.sheet_beside.proofs.Laws.{within, lane_for_length, added-length}
use native.Mathlib.Omega.{arith}
use Rattle.sheet_beside.proofs.put_beside.Goals as goal

pub put-requires : goal.put-requires
put-requires c =
    let in-page = within c.args.kind c.args.a c.requires.a_lt_approach_count.0 in
    omega (arith, in-page.beside, c.put_lane-at.ensures.result_value, c.requires.entries_value.2)

pub returns : goal.returns
unfolding beside_at
returns c =
    let a = c.args in
    let e = a.entries.now in
    let lane = lane_for a.kind (read_approach e a.a) (read_approach e a.o) (cycle e) in
    let more = added a.kind a.cells.now a.a a.o a.c in
    let in-page = within a.kind a.a c.requires.a_lt_approach_count.0 in
    let long = lane_for_length a.kind (read_approach e a.a) (read_approach e a.o) (cycle e) in
    over_then a.all.now _ lane more c.put_lane-at.ensures.all_after (rw c.added_in-added.ensures at c.put.ensures)
    (omega (arith, long, c.put_lane-at.ensures.result_value))
    (omega (arith, in-page.beside, c.put_lane-at.ensures.result_value, added-length a.kind a.cells.now a.a a.o a.c, c.requires.entries_value.2))
