-- `diamond_beside::put_cells`. The record's end, and the cells past it.
use Rattle.layout.specs.Diamond.{storages_from, page_own}
use Rattle.lists.proofs.Laws.{over_then}
use Rattle.diamond_rules.proofs.Laws.{record_length}
use lib.ListN.{length, drop, length-drop, length-take}
use lib.Seq.{take_all}
use Prim.Native.Nat.{◌-◌}
use native.Mathlib.Omega.{arith}
use Rattle.diamond_beside.proofs.put_cells.Goals as goal

pub slice_bounds-put-count : goal.slice_bounds-put-count
slice_bounds-put-count c = omega (arith, record_length _ c.args.given.accepted)

pub slice_bounds-put-start : goal.slice_bounds-put-start
slice_bounds-put-start c = omega (arith, record_length _ c.args.given.accepted)

pub put-requires : goal.put-requires
put-requires c =
    let r = c.args.given.numbers.now in
    omega (arith, record_length r c.args.given.accepted, length-drop storages_from r, length-take (length r - storages_from) (drop storages_from r))

pub returns : goal.returns
returns c =
    let r = c.args.given.numbers.now in
    let own = length-drop storages_from r in
    let rest = take_all (length r - storages_from) (drop storages_from r) (omega (arith, own)) in
    let one = rw rest at c.put.ensures in
    over_then c.args.all.now page_own _ _ one c.put-2.ensures (omega (arith, own, record_length r c.args.given.accepted)) (omega arith)
