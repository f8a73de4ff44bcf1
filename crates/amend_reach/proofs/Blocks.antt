-- Blocks of one width, one after another: whose a cell is. The lines of the approaches and the cells of the pairs are such blocks.
use mathlib.Core.Path.{◌≡◌}
use Prim.Native.Nat.{ℕ, suc, ◌+◌, ◌-◌, ◌*◌, ◌/◌, ◌%◌, ◌≤◌, ◌<◌}
use native.Mathlib.Nat.{mul-le-mul, mul-suc, mul_comm, le_refl, div-add-mod, mod-lt, div-lt_iff_lt-mul}
use native.Mathlib.Omega.{arith}
use lib.Dec.{lit≤}
use Rattle.layout.specs.declared.Worksheet.{Worksheet}
use Rattle.layout.specs.declared.Worksheet.TheVariants.{Junction, Point}
use Rattle.layout.specs.Entries.{approach_count}
use Rattle.layout.specs.Sheet.{line_count, lines_from, lines_of, pair_count, pair_cells, pairs_from, pair_of, last_from, sheet_count}
use Rattle.layout.proofs.Laws.{few}

-- block a of n ends within all of them
pub block_ends : {n : ℕ} (w a : ℕ) → a < n → w * a + w ≤ w * n
block_ends {n} w a h = omega (arith, mul-suc w a, mul-le-mul {n₁ = w} {m₁ = suc a} {n₂ = w} {m₂ = n} (le_refl w) h)

-- cell j of n blocks that begin at a cell: its block, and its place there
pub record Placed (from w n j : ℕ) : Type 0 where
  pub few : (j - from) / w < n
  pub inside : (j - from) % w < w
  pub is : j ≡ from + w * ((j - from) / w) + (j - from) % w

placed : (from w n j : ℕ) → 0 < w → from ≤ j → j < from + w * n → Placed from w n j
placed from w n j some h p =
    record {
      few = (div-lt_iff_lt-mul some).1 (omega (arith, mul_comm n w));
      inside = mod-lt (j - from) some;
      is = omega (arith, div-add-mod (j - from) w);
    }

-- of a sheet of kind k, which is small: the lines of approach a, and the cells of its pair, end before what stands after all of them
pub record Ends (k : Worksheet) (a : ℕ) : Type 0 where
  pub lines : lines_of k a + line_count k ≤ pairs_from k
  pub pair : pair_of k (a / 2) + pair_cells k ≤ last_from k
  pub cells : sheet_count k ≤ sheet_count Junction

pub ends : (k : Worksheet) (a : ℕ) → a < approach_count → Ends k a
ends k a h =
    record {
      lines = omega (arith, block_ends (line_count k) a h);
      pair = omega (arith, block_ends {n = pair_count} (pair_cells k) (a / 2) (omega arith));
      cells = (few k).cells;
    }

some_cells : (k : Worksheet) → (0 < line_count k) × (0 < pair_cells k)
some_cells Junction = (lit≤ tt, lit≤ tt)
some_cells Point = (lit≤ tt, lit≤ tt)

module _ (k : Worksheet) (j : ℕ) where
  pub line_placed : lines_from ≤ j → j < pairs_from k → Placed lines_from (line_count k) approach_count j
  line_placed = placed lines_from (line_count k) approach_count j (some_cells k).0

  pub pair_placed : pairs_from k ≤ j → j < last_from k → Placed (pairs_from k) (pair_cells k) pair_count j
  pair_placed = placed (pairs_from k) (pair_cells k) pair_count j (some_cells k).1
