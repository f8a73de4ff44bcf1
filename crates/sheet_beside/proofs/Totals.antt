-- What stands beside a right total is what it adds: with line 18 it makes the total.
use mathlib.Core.Path.{◌≡◌, refl, ◌∙◌}
use mathlib.Core.Bool.{Bool, true, false, cond, ◌||◌}
use mathlib.Core.List.{List, [], ◌∷◌}
use Prim.Native.Nat.{ℕ, ◌+◌, ◌*◌, ◌/◌, ◌<◌, ◌≤◌}
use native.Mathlib.Omega.{arith}
use lib.Dec.{eqb, lit<}
use lib.ListN.{length, get_or, take, drop, length-drop}
use lib.Seq.{length-take-le, get_or-take, get_or-drop, ext_get_or}
use Rattle.layout.specs.declared.Worksheet.{Worksheet}
use Rattle.layout.specs.Entries.{approach_count, entry_count, EB, WB, NB, SB, free_no, approach_place}
use Rattle.layout.specs.Sheet.{line_count, lines_of, pair_cells, pair_of, last_from}
use Rattle.procedure.specs.Approach.{read_approach, is_free}
use Rattle.procedure.specs.Pairs.{line, through_time, left_time, right_total}
use Rattle.procedure.specs.Sheet.{lines_at, pair_at, right_at, last_of, last_at, sheet_for}
use Rattle.entries.specs.Layout.{approach_entry}
use Rattle.sheet_cells.specs.Cells.{opposite}
use Rattle.sheet_cells.proofs.Cells.{sheet_length, lines_length, pair_length, entry_cell, line_cell, pair_cell, last_cell}
use Rattle.sheet_beside.specs.Beside.{lines_in, pair_in, line_in, through_in, left_in, added}
use Rattle.sheet_beside.proofs.Laws.{within}

-- a right total by the cells: line 18 and the two numbers beside it, where there are rights
abbrev pub right_in : Worksheet → List ℕ → ℕ → ℕ → ℕ → ℕ
right_in k cells a o c =
    cond (eqb (line_in k cells a 3) 0) 0 (line_in k cells a 18 + get_or (added k cells a o c) 0 0 + get_or (added k cells a o c) 1 0)

-- nothing is added to a free right
parted : (none free : Bool) (l x y : ℕ)
    → cond none 0 (cond free l (l + x + y))
    ≡ cond none 0 (l + get_or (cond (none || free) (0 ∷ 0 ∷ []) (x ∷ y ∷ [])) 0 0 + get_or (cond (none || free) (0 ∷ 0 ∷ []) (x ∷ y ∷ [])) 1 0)
parted true free l x y = refl
parted false true l x y = omega arith
parted false false l x y = refl

-- a part of a list, by its numbers
part_is : (list part : List ℕ) (from n : ℕ) → length part ≡ n → from + n ≤ length list
    → ((t : ℕ) → t < n → get_or list (from + t) 0 ≡ get_or part t 0) → take n (drop from list) ≡ part
part_is list part from n long room each =
    let taken : length (take n (drop from list)) ≡ n = length-take-le n (drop from list) (omega (arith, length-drop from list)) in
    ext_get_or 0 (take n (drop from list)) part (omega arith)
    (λ t h. get_or-take n (drop from list) t 0 (omega arith) ∙ get_or-drop from list t 0 ∙ each t (omega arith))

module _ (k : Worksheet) (e : List ℕ) (long : length e ≡ entry_count) where
  abbrev cells : List ℕ
  cells = sheet_for k e

  -- the lines of approach a and the cells of its pair are the sheet's; o is opposite it
  module _ (a o : ℕ) (h : a < approach_count) (facing : opposite a ≡ o) where
    abbrev own : List ℕ
    own = pair_at k e (2 * (a / 2)) (2 * (a / 2) + 1)

    lines_are : lines_in k cells a ≡ lines_at k e a o
    lines_are =
        rw (← facing)
        (part_is cells (lines_at k e a (opposite a)) (lines_of k a) (line_count k) (lines_length k e a (opposite a))
        (omega (arith, (within k a h).lines, sheet_length k e long)) (λ t p. line_cell k e long a t h p))

    pair_is : pair_in k cells a ≡ own
    pair_is =
        part_is cells own (pair_of k (a / 2)) (pair_cells k) (pair_length k e (2 * (a / 2)) (2 * (a / 2) + 1))
        (omega (arith, (within k a h).pair, sheet_length k e long)) (λ t p. pair_cell k e long (a / 2) t (omega arith) p)

    through_is : through_in k cells a ≡ through_time own (lines_at k e a o)
    through_is = rw (lines_are, pair_is)

    left_is : left_in k cells a ≡ left_time own (lines_at k e a o)
    left_is = rw (lines_are, pair_is)

    free_is : get_or cells (approach_place a free_no) 0 ≡ (read_approach e a).free.0
    unfolding read_approach approach_entry
    free_is = entry_cell k e long (approach_place a free_no) (omega arith)

    total_is : (c x y : ℕ) → through_in k cells c ≡ x → left_in k cells o ≡ y
        → right_total (is_free (read_approach e a)) (lines_at k e a o) x y ≡ right_in k cells a o c
    unfolding right_total added
    total_is c x y p q =
        rw (p, q, lines_are, free_is)
        (parted (eqb (line 3 (lines_at k e a o)) 0) (is_free (read_approach e a)) (line 18 (lines_at k e a o)) x y)

  pub record RightTotals : Type 0 where
    pub eb : get_or cells (last_from k + EB) 0 ≡ right_in k cells EB WB SB
    pub wb : get_or cells (last_from k + WB) 0 ≡ right_in k cells WB EB NB
    pub nb : get_or cells (last_from k + NB) 0 ≡ right_in k cells NB SB EB
    pub sb : get_or cells (last_from k + SB) 0 ≡ right_in k cells SB NB WB

  pub right_totals : RightTotals
  unfolding opposite last_at last_of right_at
  right_totals =
      record {
        eb =
            last_cell k e long EB
            ∙ total_is EB WB (lit< tt) refl SB _ _ (through_is SB NB (lit< tt) refl) (left_is WB EB (lit< tt) refl);
        wb =
            last_cell k e long WB
            ∙ total_is WB EB (lit< tt) refl NB _ _ (through_is NB SB (lit< tt) refl) (left_is EB WB (lit< tt) refl);
        nb =
            last_cell k e long NB
            ∙ total_is NB SB (lit< tt) refl EB _ _ (through_is EB WB (lit< tt) refl) (left_is SB NB (lit< tt) refl);
        sb =
            last_cell k e long SB
            ∙ total_is SB NB (lit< tt) refl WB _ _ (through_is WB EB (lit< tt) refl) (left_is NB SB (lit< tt) refl);
      }
