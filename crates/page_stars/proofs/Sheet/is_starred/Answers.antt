-- By the part of the sheet that the cell stands in.
use Prim.Native.Nat.{◌-◌}
use native.Mathlib.Nat.{mod-lt}
use Rattle.layout.proofs.Laws.{few}
use Rattle.layout.specs.Sheet.{lines_from}
use native.Mathlib.Omega.{arith}
use Rattle.page_stars.proofs.Laws.{with_times, approach_of, opposite_pair}
use Rattle.page_stars.proofs.Sheet.is_starred.Goals as goal

pub nonzero_div-line : goal.nonzero_div-line
nonzero_div-line c =
    omega (arith, with_times c.args.self.kind)

pub nonzero_rem-line : goal.nonzero_rem-line
nonzero_rem-line c =
    omega (arith, with_times c.args.self.kind)

pub overflow_add-line : goal.overflow_add-line
overflow_add-line c =
    let args = c.args in
    let some = with_times args.self.kind in
    omega (arith, (few args.self.kind).lines, mod-lt (args.cell - lines_from) {m = c.lines-lines.result} (omega arith))

pub is_line_starred-requires : goal.is_line_starred-requires
is_line_starred-requires c =
    let args = c.args in
    rw c.lines-lines.ensures (approach_of args.self.kind (args.cell - lines_from) (omega arith), omega arith)

pub nonzero_div-total : goal.nonzero_div-total
nonzero_div-total c =
    omega (arith, (few c.args.self.kind).some_pair)

pub nonzero_rem-total : goal.nonzero_rem-total
nonzero_rem-total c =
    omega (arith, (few c.args.self.kind).some_pair)

pub is_picked-requires : goal.is_picked-requires
is_picked-requires c =
    let pairs = c.pairs_from-pairs.result in
    let args = c.args in
    rw c.pair_cells-totals.ensures (opposite_pair args.self.kind (args.cell - pairs) (omega arith))
