-- By the kind: a single point has no such lane, and a junction's is put.
use Rattle.layout.specs.Sheet.{beside_numbers}
use Rattle.entries.proofs.Laws.{as_junction}
use Rattle.lists.proofs.Laws.{over_none}
use Rattle.sheet_beside.specs.Beside.{lane_for}
use Rattle.sheet_beside.proofs.Laws.{within}
use mathlib.Core.Path.{◌≡◌}
use native.Mathlib.Omega.{arith}
use Rattle.sheet_beside.proofs.put_lane.Goals as goal

pub returns-in_default : goal.returns-in_default
unfolding lane_for
returns-in_default c =
    rw c.in_default.is
    record {
      all_after = over_none c.args.all.now _;
      result_value = rw (c.beside_from-at.ensures, c.in_default.is);
    }

pub lane_at-lane-requires : goal.lane_at-lane-requires
lane_at-lane-requires c =
    (as_junction c.args.kind c.args.entries.now c.requires.0, c.requires.2, c.requires.3)

pub put-requires : goal.put-requires
put-requires c =
    let in-page = within c.args.kind c.args.a c.requires.2 in
    let five : beside_numbers c.args.kind ≡ 5 = rw c.in-Junction.is in
    omega (arith, in-page.beside, five, c.beside_from-at.ensures, c.requires.1)

pub overflow_add-result : goal.overflow_add-result
overflow_add-result c =
    let in-page = within c.args.kind c.args.a c.requires.2 in
    let five : beside_numbers c.args.kind ≡ 5 = rw c.in-Junction.is in
    omega (arith, in-page.beside, in-page.page, five, c.beside_from-at.ensures)

pub returns : goal.returns
unfolding lane_for
returns c =
    rw c.in-Junction.is record {
      all_after = rw (c.lane_at-lane.ensures, c.beside_from-at.ensures, c.in-Junction.is) at c.put.ensures;
      result_value = omega (arith, rw c.in-Junction.is at c.beside_from-at.ensures);
    }
