-- The cells of a sheet, by place.
use mathlib.Core.Path.{◌≡◌, refl, ◌∙◌}
use mathlib.Core.List.{List, [], ◌++◌, append_assoc}
use Prim.Native.Nat.{ℕ, zero, suc, ◌+◌, ◌*◌, ◌<◌}
use native.Mathlib.Nat.{not-suc-le-zero, mul-le-mul, mul-suc, le_refl, add_assoc}
use native.Mathlib.Decide.{dec_lt}
use native.Mathlib.Omega.{arith}
use lib.ListN.{length, get_or, take, length-append, get_or-append}
use lib.Seq.{get_or-append-add, take_at}
use Rattle.layout.specs.declared.Worksheet.{Worksheet}
use Rattle.layout.specs.declared.Worksheet.TheVariants.{Junction, Point}
use Rattle.layout.specs.Entries.{approach_count, entry_count}
use Rattle.layout.specs.Sheet.{line_count, lines_from, lines_of, pair_count, pair_cells, pairs_from, pair_of, last_from, last_cells, sheet_count}
use Rattle.answers.specs.declared.Answer.TheVariants.{Accepted}
use Rattle.answers.proofs.Laws.{sized}
use Rattle.entries.specs.Layout.{cycle}
use Rattle.procedure.specs.declared.Approach.{Approach}
use Rattle.procedure.specs.Approach.{read_approach}
use Rattle.procedure.specs.Lines.{lines, first_lines, later_lines, lines_for}
use Rattle.procedure.specs.Pairs.{pair, pair_for}
use Rattle.procedure.specs.Sheet.{lines_at, pair_at, last_at, last_of, sheet_for}
use Rattle.sheet_cells.specs.Cells.{sheet_answer, opposite}

-- SIZE is not answered only of a sheet of as many numbers as it has cells
pub sheet_accepted : (k : Worksheet) (d : List ℕ) → sheet_answer k d ≡ Accepted → length d ≡ sheet_count k
unfolding sheet_answer
sheet_accepted k d h = sized (length d) (sheet_count k) h

-- a cell of two lists joined
in_first : (n : ℕ) (xs ys : List ℕ) (k : ℕ) → length xs ≡ n → k < n → get_or (xs ++ ys) k 0 ≡ get_or xs k 0
in_first n xs ys k h p = get_or-append xs ys 0 k (omega arith)

in_second : (n : ℕ) (xs ys : List ℕ) (k : ℕ) → length xs ≡ n → get_or (xs ++ ys) (n + k) 0 ≡ get_or ys k 0
in_second n xs ys k h = rw (← h) (get_or-append-add xs ys k 0)

-- blocks of one width, joined in order
abbrev joined : (ℕ → List ℕ) → ℕ → List ℕ
joined block zero = []
joined block (suc n) = joined block n ++ block n

-- cell t of block c of n, each w wide, is among all of them
pub within_blocks : {n w : ℕ} (c t : ℕ) → c < n → t < w → w * c + t < w * n
within_blocks {n} {w} c t p q = omega (arith, mul-suc w c, mul-le-mul {n₁ = w} {m₁ = suc c} {n₂ = w} {m₂ = n} (le_refl w) p)

module _ (block : ℕ → List ℕ) (w : ℕ) (wide : (c : ℕ) → length (block c) ≡ w) where
  joined_length : (n : ℕ) → length (joined block n) ≡ w * n
  joined_length zero = omega arith
  joined_length (suc n) = length-append (joined block n) (block n) ∙ rw (joined_length n, wide n, mul-suc)

  joined_cell : (n c t : ℕ) → c < n → t < w → get_or (joined block n) (w * c + t) 0 ≡ get_or (block c) t 0
  joined_cell zero c t p q = absurd (not-suc-le-zero p)
  joined_cell (suc n) c t p q = go (λ r. joined_cell n c t r q) (dec_lt c n)
    where
      go :
          (c < n → get_or (joined block n) (w * c + t) 0 ≡ get_or (block c) t 0) → Dec (c < n)
          → get_or (joined block n ++ block n) (w * c + t) 0 ≡ get_or (block c) t 0
      go before (yes r) =
          in_first (w * n) (joined block n) (block n) (w * c + t) (joined_length n)
          (within_blocks c t r q)
          ∙ before r
      go before (no r) = let last : c ≡ n = omega arith in rw last (in_second (w * n) (joined block n) (block n) t (joined_length n))

module _ (k : Worksheet) where
  pub lines_long : (s o : Approach) (CL : ℕ) → length (lines_for k s o CL) ≡ line_count k
  unfolding lines_for lines first_lines later_lines
  lines_long s o CL = by k
    where
      by : (k : Worksheet) → length (lines_for k s o CL) ≡ line_count k
      by Junction = refl
      by Point = refl

  pub lines_length : (e : List ℕ) (a o : ℕ) → length (lines_at k e a o) ≡ line_count k
  unfolding lines_at
  lines_length e a o = lines_long (read_approach e a) (read_approach e o) (cycle e)

  pub pair_length : (e : List ℕ) (a o : ℕ) → length (pair_at k e a o) ≡ pair_cells k
  unfolding pair_at pair_for pair
  pair_length e a o = by k
    where
      by : (k : Worksheet) → length (pair_at k e a o) ≡ pair_cells k
      by Junction = refl
      by Point = refl

  pub last_length : (e : List ℕ) → length (last_at k e) ≡ last_cells
  unfolding last_at last_of
  last_length e = refl

module _ (k : Worksheet) (e : List ℕ) where
  -- the blocks of the approaches, and of the pairs
  lines_block : ℕ → List ℕ
  lines_block c = lines_at k e c (opposite c)

  pair_block : ℕ → List ℕ
  pair_block q = pair_at k e (2 * q) (2 * q + 1)

  all_lines : List ℕ
  all_lines = joined lines_block approach_count

  all_pairs : List ℕ
  all_pairs = joined pair_block pair_count

  sheet_is : sheet_for k e ≡ e ++ all_lines ++ (all_pairs ++ last_at k e)
  unfolding sheet_for lines_block pair_block all_lines all_pairs opposite
  sheet_is = refl

  of_lines : (c : ℕ) → length (lines_block c) ≡ line_count k
  unfolding lines_block
  of_lines c = lines_length k e c (opposite c)

  of_pair : (q : ℕ) → length (pair_block q) ≡ pair_cells k
  unfolding pair_block
  of_pair q = pair_length k e (2 * q) (2 * q + 1)

  all_lines_length : length all_lines ≡ line_count k * approach_count
  unfolding all_lines
  all_lines_length = joined_length lines_block (line_count k) of_lines approach_count

  all_pairs_length : length all_pairs ≡ pair_cells k * pair_count
  unfolding all_pairs
  all_pairs_length = joined_length pair_block (pair_cells k) of_pair pair_count

  module _ (long : length e ≡ entry_count) where
    first_length : length (e ++ all_lines) ≡ pairs_from k
    first_length = length-append e all_lines ∙ omega (arith, all_lines_length)

    pub sheet_length : length (sheet_for k e) ≡ sheet_count k
    sheet_length =
        rw (sheet_is, length-append (e ++ all_lines) (all_pairs ++ last_at k e), length-append all_pairs (last_at k e))
        (omega (arith, first_length, all_pairs_length, last_length k e))

    pub entry_cell : (i : ℕ) → i < entry_count → get_or (sheet_for k e) i 0 ≡ get_or e i 0
    entry_cell i h =
        rw sheet_is (in_first (pairs_from k) (e ++ all_lines) _ i first_length (omega arith) ∙ in_first entry_count e all_lines i long h)

    -- line t + 1 of approach c
    pub line_cell :
        (c t : ℕ) → c < approach_count → t < line_count k → get_or (sheet_for k e) (lines_of k c + t) 0 ≡ get_or (lines_at k e c (opposite c)) t 0
    unfolding lines_block all_lines
    line_cell c t h p =
        rw (sheet_is, add_assoc lines_from (line_count k * c) t)
        (in_first (pairs_from k) (e ++ all_lines) _ (lines_from + (line_count k * c + t)) first_length (omega (arith, within_blocks c t h p))
        ∙ in_second entry_count e all_lines (line_count k * c + t) long ∙ joined_cell lines_block (line_count k) of_lines approach_count c t h p)

    -- cell t of pair q
    pub pair_cell :
        (q t : ℕ) → q < pair_count → t < pair_cells k → get_or (sheet_for k e) (pair_of k q + t) 0 ≡ get_or (pair_at k e (2 * q) (2 * q + 1)) t 0
    unfolding pair_block all_pairs
    pair_cell q t h p =
        rw (sheet_is, add_assoc (pairs_from k) (pair_cells k * q) t)
        (in_second (pairs_from k) (e ++ all_lines) _ (pair_cells k * q + t) first_length
        ∙ in_first (pair_cells k * pair_count) all_pairs (last_at k e) (pair_cells k * q + t) all_pairs_length (within_blocks q t h p)
        ∙ joined_cell pair_block (pair_cells k) of_pair pair_count q t h p)

    pub last_cell : (t : ℕ) → get_or (sheet_for k e) (last_from k + t) 0 ≡ get_or (last_at k e) t 0
    last_cell t =
        let at : last_from k + t ≡ pairs_from k + (pair_cells k * pair_count + t) = omega arith in
        rw (sheet_is, at)
        (in_second (pairs_from k) (e ++ all_lines) _ (pair_cells k * pair_count + t) first_length
        ∙ in_second (pair_cells k * pair_count) all_pairs (last_at k e) t all_pairs_length)

    pub sheet_entries : take entry_count (sheet_for k e) ≡ e
    sheet_entries = rw (sheet_is, append_assoc e all_lines) (take_at e _ entry_count long)
