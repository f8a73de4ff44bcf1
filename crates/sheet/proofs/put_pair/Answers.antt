-- Of all that was worked out, the front that the sheet has is put.
use Rattle.layout.proofs.Laws.{few}
use lib.ListN.{length}
use lib.Seq.{length-take-le}
use native.Mathlib.Omega.{arith}
use mathlib.Core.Path.{sym}
use Prim.Native.Nat.{◌≤◌}
use Rattle.sheet.proofs.put_pair.Goals.{After-pair_cells}
use Rattle.sheet.proofs.put_pair.Goals as goal

room : (d : After-pair_cells) → d.pair_cells.result ≤ length d.cells_of-cells.result
room d = rw d.cells_of-cells.ensures (omega (arith, d.pair_cells.ensures, (few d.args.kind).pair))

pub slice_bounds-put-end : goal.slice_bounds-put-end
slice_bounds-put-end c = sym (length-take-le _ _ (room (goal.at.slice_bounds-put-end c).After-pair_cells))

pub put-requires : goal.put-requires
put-requires c =
    let front = length-take-le c.pair_cells.result c.cells_of-cells.result (room (goal.at.put-requires c).After-pair_cells) in
    omega (arith, front, c.pair_cells.ensures, c.requires)

pub returns : goal.returns
returns c = rw (← c.pair_cells.ensures, ← c.cells_of-cells.ensures) c.put.ensures
