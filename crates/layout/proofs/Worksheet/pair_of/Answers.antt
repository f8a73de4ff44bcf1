use Rattle.layout.specs.Entries.{approach_count}
use Rattle.layout.specs.declared.Worksheet.{Worksheet}
use Rattle.layout.specs.declared.Worksheet.TheVariants.{Junction, Point}
use Rattle.layout.specs.Sheet.{pair_cells, in_pair, pairs_from}
use Rattle.layout.proofs.Laws.{few}
use Prim.Native.Nat.{ℕ, ◌*◌, ◌/◌, ◌≤◌, ◌<◌}
use lib.Dec.{lit≤}
use native.Mathlib.Nat.{mul-le-mul}
use native.Mathlib.Omega.{arith}
use Rattle.layout.proofs.Worksheet.pair_of.Goals as goal

early : (k : Worksheet) → pairs_from k ≤ pairs_from Junction
early Junction = lit≤ tt
early Point = lit≤ tt

few_cells : (k : Worksheet) (a : ℕ) → a < approach_count → pair_cells k * (a / in_pair) ≤ pair_cells Junction * approach_count
few_cells k a h = mul-le-mul {m₁ = a / in_pair} {m₂ = approach_count} (few k).pair (omega arith)

pub overflow_mul-result : goal.overflow_mul-result
overflow_mul-result c =
    rw c.pair_cells.ensures (omega (arith, few_cells c.args.self c.args.approach c.requires))

pub overflow_add-result : goal.overflow_add-result
overflow_add-result c =
    rw (c.pairs_from.ensures, c.pair_cells.ensures)
    (omega (arith, early c.args.self, few_cells c.args.self c.args.approach c.requires))

pub returns : goal.returns
returns c = rw (c.pairs_from.ensures, c.pair_cells.ensures)
