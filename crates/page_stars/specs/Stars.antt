-- Where a star stands on the page: beside the numbers that decide, told from a sheet's cells and its kind alone.
use Rattle.std.specs.Prelude.{ℕ, ◌+◌, ◌*◌, ◌-◌, ◌/◌, ◌%◌, Bool, false, cond, not, ◌&&◌, ◌||◌, List, get_or, eqb, leb, ltb, Option, Some, None, unwrap_or}
use Rattle.layout.specs.Entries.{EB, WB, NB, SB}
use Rattle.layout.specs.declared.Worksheet.{Worksheet}
use Rattle.layout.specs.declared.Worksheet.TheVariants.{Junction, Point}
use Rattle.layout.specs.Sheet.{BLANK, line_count, lines_from, lines_of, in_pair, pair_cells, pairs_from, pair_of, pick_no, pick_cell}
use Rattle.layout.specs.Sheet.{last_from, combined_cell, required_cell}

-- line n of approach a
abbrev pub line_at : Worksheet → List ℕ → ℕ → ℕ → ℕ
line_at k cells a n = get_or cells (lines_of k a + (n - 1)) 0

-- "one approach's 16 and the other's 17"
abbrev pub sum_of : Worksheet → List ℕ → ℕ → ℕ → ℕ
sum_of k cells a o = line_at k cells a 16 + line_at k cells o 17

-- the approach of pair q whose 16 is in "the larger sum"; the first on a tie
unfoldable pub leader : Worksheet → List ℕ → ℕ → ℕ
leader k cells q =
    let first = in_pair * q in
    let second = first + 1 in
    cond (leb (sum_of k cells second first) (sum_of k cells first second)) first second

-- its 16 and the other's 17 have a star, where protected is allowed
unfoldable pub in_sum : Worksheet → List ℕ → ℕ → ℕ → Bool
in_sum k cells a n =
    not (eqb (get_or cells (pair_of k (a / in_pair)) 0) BLANK) && cond (eqb a (leader k cells (a / in_pair))) (eqb n 16) (eqb n 17)

-- the option that line 25 takes, A on a tie; none where it is BLANK, or 0 as for an empty approach, and none where there is no line 25
unfoldable pub option_taken : Worksheet → List ℕ → ℕ → Option ℕ
option_taken Junction cells a =
    let lesser = line_at Junction cells a 25 in
    cond (eqb lesser BLANK || eqb lesser 0) None (cond (eqb (line_at Junction cells a 23) lesser) (Some 23) (Some 24))
option_taken Point cells a = None

-- the total of pair q that is picked; a single point's pair has one
unfoldable pub pick_of : Worksheet → List ℕ → ℕ → ℕ
pick_of Junction cells q = get_or cells (pick_cell q) 0
pick_of Point cells q = 0

unfoldable pub is_picked : Worksheet → List ℕ → ℕ → ℕ → Bool
is_picked k cells q total = ltb total pick_no && eqb (pick_of k cells q) total

-- where the required time comes from: combined, or else the first of the right totals that is as large
abbrev pub or_else : Worksheet → List ℕ → ℕ → ℕ → ℕ
or_else k cells cell other = cond (eqb (get_or cells cell 0) (get_or cells (required_cell k) 0)) cell other

unfoldable pub deciding : Worksheet → List ℕ → ℕ
deciding k cells =
    or_else k cells (combined_cell k)
    (or_else k cells (last_from k + EB)
    (or_else k cells (last_from k + WB) (or_else k cells (last_from k + NB) (last_from k + SB))))

-- whether a cell has a star
unfoldable pub line_starred : Worksheet → List ℕ → ℕ → ℕ → Bool
line_starred k cells a n = in_sum k cells a n || eqb n (unwrap_or (option_taken k cells a) 0)

unfoldable pub starred : Worksheet → List ℕ → ℕ → Bool
starred k cells cell =
    cond (ltb cell lines_from) false
    (cond (ltb cell (pairs_from k)) (line_starred k cells ((cell - lines_from) / line_count k) ((cell - lines_from) % line_count k + 1))
    (cond (ltb cell (last_from k)) (is_picked k cells ((cell - pairs_from k) / pair_cells k) ((cell - pairs_from k) % pair_cells k))
    (eqb cell (deciding k cells))))
