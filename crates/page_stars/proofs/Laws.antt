-- Where the lines and the totals of each kind's sheet stand, so far as their needs go.
use Prim.Native.Nat.{ℕ, ◌+◌, ◌*◌, ◌-◌, ◌/◌, ◌≤◌, ◌<◌}
use native.Mathlib.Omega.{arith}
use Rattle.layout.proofs.Laws.{few}
use Rattle.layout.specs.Entries.{approach_count}
use Rattle.layout.specs.Sheet.{line_count, pair_count, pair_cells, pair_of, lines_of, last_from, sheet_count}
use Rattle.layout.specs.declared.Worksheet.{Worksheet}
use Rattle.layout.specs.declared.Worksheet.TheVariants.{Junction, Point}

-- each kind has lines 16 and 17
pub with_times : (k : Worksheet) → 17 ≤ line_count k
with_times k = omega (arith, (few k).least)

-- and no more cells than a junction's sheet
pub few_last : (k : Worksheet) → last_from k ≤ last_from Junction
few_last Junction = omega arith
few_last Point = omega arith

pub line_near : (k : Worksheet) (a n : ℕ) → a < approach_count → 0 < n → n ≤ line_count k → lines_of k a + (n - 1) ≤ sheet_count Junction
line_near Junction a n h some few = omega arith
line_near Point a n h some few = omega arith

pub pair_near : (k : Worksheet) (q : ℕ) → q < pair_count → pair_of k q ≤ sheet_count Junction
pair_near Junction q h = omega arith
pair_near Point q h = omega arith

-- the approach of a line, and the pair of a total
pub approach_of : (k : Worksheet) (line : ℕ) → line < line_count k * approach_count → line / line_count k < approach_count
approach_of Junction line h = omega arith
approach_of Point line h = omega arith

pub opposite_pair : (k : Worksheet) (total : ℕ) → total < pair_cells k * pair_count → total / pair_cells k < pair_count
opposite_pair Junction total h = omega arith
opposite_pair Point total h = omega arith
