use Prim.Native.Nat.{◌/◌}
use Rattle.layout.specs.Sheet.{in_pair}
use native.Mathlib.Omega.{arith}
use Rattle.page_stars.proofs.Laws.{pair_near}
use Rattle.page_stars.proofs.Sheet.is_in_sum.Goals as goal

pub overflow_mul-pair_cells : goal.overflow_mul-pair_cells
overflow_mul-pair_cells c =
    let args = c.args in
    rw c.pair_cells.ensures (omega (arith, pair_near args.self.kind (args.a / in_pair) (omega arith)))

pub overflow_add-pairs_from : goal.overflow_add-pairs_from
overflow_add-pairs_from c =
    let args = c.args in
    rw (c.pair_cells.ensures, c.pairs_from.ensures)
    (omega (arith, pair_near args.self.kind (args.a / in_pair) (omega arith)))
