-- The cells that each copy writes.
use Rattle.std.specs.Prelude.{◌≡◌, Bool, true, ◌&&◌, ◌||◌, List, [], ◌∷◌, ℕ, suc, ◌+◌, ◌-◌, ◌/◌, leb, ltb}
use Rattle.layout.specs.declared.Worksheet.{Worksheet}
use Rattle.layout.specs.Sheet.{line_count, lines_of, pair_cells, pair_of, last_from, sheet_count}
use Rattle.sheet_cells.specs.Cells.{opposite}
use Rattle.amend_reach.specs.declared.Reach.{Reach}
use Rattle.amend_reach.specs.Reach.{names, faces}

-- those from one on and before another
unfoldable pub run : ℕ → ℕ → ℕ → Bool
run from to cell = leb from cell && ltb cell to

unfoldable pub run_if : Bool → ℕ → ℕ → ℕ → Bool
run_if wanted from to cell = wanted && run from to cell

-- of so many lines of an approach, whose first stands at a cell, those that a test names
unfoldable pub lines_named : ℕ → ℕ → (ℕ → Bool) → ℕ → Bool
lines_named count first test cell = test (suc (cell - first)) && run first (first + count) cell

-- the lines of a list count from 1
abbrev pub are_lines : List ℕ → Bool
are_lines [] = true
are_lines (x ∷ xs) = leb 1 x && are_lines xs

-- two rows, column by column
abbrev pub SameRow : Reach → Reach → Type 0
SameRow r s = (r.own ≡ s.own) × (r.facing ≡ s.facing) × (r.pair ≡ s.pair) × (r.everywhere ≡ s.everywhere)

-- the last copy first: the last cells, the pair's, the lines opposite, the own lines
unfoldable pub street_cells : Worksheet → Reach → ℕ → ℕ → Bool
street_cells k reach a cell =
    run (last_from k) (sheet_count k) cell || run_if reach.pair (pair_of k (a / 2)) (pair_of k (a / 2) + pair_cells k) cell
    || lines_named (line_count k) (lines_of k (opposite a)) (faces reach.facing) cell
    || lines_named (line_count k) (lines_of k a) (names reach.own) cell
