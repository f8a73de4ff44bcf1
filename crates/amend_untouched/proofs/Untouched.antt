-- The reach list is right: a cell that it does not name is the same in the sheets of the entries before and after, of either kind. Each
-- number of an approach is taken first, then each entry, then each part of the sheet.
use mathlib.Core.Path.{◌≡◌, refl, sym, ◌∙◌, ap}
use mathlib.Core.Bool.{Bool, true, false, cond}
use mathlib.Core.List.{List}
use Prim.Native.Nat.{ℕ, suc, ◌+◌, ◌-◌, ◌*◌, ◌/◌, ◌%◌, ◌<◌}
use native.Mathlib.Decide.{dec_lt, ℕ_discrete}
use native.Mathlib.Omega.{arith}
use lib.Dec.{eqb}
use lib.ListN.{length, get_or, set, length-set}
use lib.Seq.{get_or-set_other, ext_get_or}
use borrow.Author.Tests.{eqb-true, eqb-false, eq-eqb, not-false}
use Rattle.layout.specs.declared.Worksheet.{Worksheet}
use Rattle.layout.specs.Entries.{approach_count, cycle_entry, entry_count, free_no}
use Rattle.layout.specs.Sheet.{line_count, lines_from, pair_count, pair_cells, pairs_from, last_from, sheet_count}
use Rattle.lists.proofs.Tests.{neither}
use Rattle.kinds.specs.Kinds.{kind_at}
use Rattle.entries.specs.Layout.{cycle}
use Rattle.procedure.specs.Approach.{read_approach, is_shared}
use Rattle.procedure.specs.Sheet.{lines_at, pair_at, sheet_for}
use Rattle.sheet_cells.specs.Cells.{opposite}
use Rattle.sheet_cells.proofs.Cells.{lines_length, entry_cell, line_cell, pair_cell}
use Rattle.sheet_cells.proofs.Street.{street, opposite_pair}
use Rattle.amend_reach.specs.declared.Reach.{Reach}
use Rattle.amend_reach.specs.Reach.{names, faces, reach_of, approach_at, reached_line, reached_pair, reached}
use Rattle.amend_reach.proofs.Blocks.{line_placed, pair_placed}
use Rattle.amend_reach.proofs.Parts.{at_entry, at_line, at_pair, at_last}
use Rattle.amend_untouched.proofs.Numbers.{own_from, number_count, numbers, field_kind, place, place_below, read_is, read_own, read_other, of_entry}
use Rattle.amend_untouched.proofs.Lines.{own_untouched, opposed_untouched, pair_number}

module _ (k : Worksheet) (e : List ℕ) (a f v : ℕ) (long : length e ≡ entry_count) (ha : a < approach_count) (hf : f < number_count) where
  abbrev row : Reach
  row = reach_of (field_kind f)

  cycle_kept : cycle (set e (place a f) v) ≡ cycle e
  cycle_kept = get_or-set_other e (place a f) cycle_entry v 0 (λ p. omega (arith, place_below a f ha hf))

  street_lines :
      (o t : ℕ) → o < approach_count → (o ≡ a → ⊥) → t < line_count k
      → (names row.own (suc t) ≡ false → get_or (lines_at k (set e (place a f) v) a o) t 0 ≡ get_or (lines_at k e a o) t 0)
      × (faces row.facing (suc t) ≡ false → get_or (lines_at k (set e (place a f) v) o a) t 0 ≡ get_or (lines_at k e o a) t 0)
  unfolding lines_at
  street_lines o t ho other ht =
      rw (read_own e a f v long ha hf, read_other e a f v long ha hf o ho other, cycle_kept, read_is e a) (
        own_untouched (numbers e a) (read_approach e o) (cycle e) v k f t hf ht,
        opposed_untouched (numbers e a) (read_approach e o) (cycle e) v k f t hf ht,
      )

  cross_lines :
      (c o : ℕ) → c < approach_count → o < approach_count → (c ≡ a → ⊥) → (o ≡ a → ⊥) → lines_at k (set e (place a f) v) c o ≡ lines_at k e c o
  unfolding lines_at
  cross_lines c o hc ho p q = rw (read_other e a f v long ha hf c hc p, read_other e a f v long ha hf o ho q, cycle_kept)

  line_kept :
      (c t : ℕ) → c < approach_count → t < line_count k → reached_line row a c (suc t) ≡ false
      → get_or (lines_at k (set e (place a f) v) c (opposite c)) t 0 ≡ get_or (lines_at k e c (opposite c)) t 0
  unfolding reached_line
  line_kept c t hc ht out = go (eqb c a) refl (eqb c (opposite a)) refl (neither row.everywhere _ out).1
    where
      go :
          (own : Bool) → eqb c a ≡ own → (opposed : Bool) → eqb c (opposite a) ≡ opposed
          → cond own (names row.own (suc t)) (cond opposed (faces row.facing (suc t)) false) ≡ false
          → get_or (lines_at k (set e (place a f) v) c (opposite c)) t 0 ≡ get_or (lines_at k e c (opposite c)) t 0
      go true p opposed q off = rw (eqb-true c a p) ((street_lines (opposite a) t (street a ha).few (street a ha).other ht).0 off)
      go false p true q off =
          rw (eqb-true c (opposite a) q, (street a ha).back) ((street_lines (opposite a) t (street a ha).few (street a ha).other ht).1 off)
      go false p false q off =
          ap (λ (l : List ℕ). get_or l t 0)
          (cross_lines c (opposite c) hc (street c hc).few (eqb-false c a p)
          (λ r. eqb-false c (opposite a) q (sym (street c hc).back ∙ ap opposite r)))

  -- a pair is out of reach of its own approaches only for free right
  free_number : (c : ℕ) → reached_pair row a (c / 2) ≡ false → a / 2 ≡ c / 2 → f ≡ own_from + free_no
  unfolding reached_pair
  free_number c out same =
      let off : row.pair ≡ false = rw (eq-eqb (c / 2) (a / 2) (sym same)) at (neither row.everywhere _ out).1 in
      eqb-true f (own_from + free_no) (not-false _ (sym (pair_number f hf) ∙ off))

  -- and then no line of theirs is reached either
  pair_out : (c t : ℕ) → c < approach_count → reached_pair row a (c / 2) ≡ false → reached_line row a c (suc t) ≡ false
  unfolding reached_pair reached_line
  pair_out c t hc out = rw (neither row.everywhere _ out).0 (go (eqb c a) refl (eqb c (opposite a)) refl)
    where
      go :
          (own : Bool) → eqb c a ≡ own → (opposed : Bool) → eqb c (opposite a) ≡ opposed
          → cond own (names row.own (suc t)) (cond opposed (faces row.facing (suc t)) false) ≡ false
      go true p opposed q = rw (free_number c out (omega (arith, eqb-true c a p)))
      go false p true q = rw (free_number c out (omega (arith, eqb-true c (opposite a) q, (street a ha).same_pair)))
      go false p false q = refl

  lines_kept :
      (c : ℕ) → c < approach_count → reached_pair row a (c / 2) ≡ false
      → lines_at k (set e (place a f) v) c (opposite c) ≡ lines_at k e c (opposite c)
  lines_kept c hc out =
      let new : length (lines_at k (set e (place a f) v) c (opposite c)) ≡ line_count k = lines_length k (set e (place a f) v) c (opposite c) in
      ext_get_or 0 _ _ (new ∙ sym (lines_length k e c (opposite c))) (λ t ht. line_kept c t hc (rw new at ht) (pair_out c t hc out))

  shared_kept :
      (c : ℕ) → c < approach_count → reached_pair row a (c / 2) ≡ false
      → is_shared (read_approach (set e (place a f) v) c) ≡ is_shared (read_approach e c)
  shared_kept c hc out = go (ℕ_discrete c a)
    where
      go : Dec (c ≡ a) → is_shared (read_approach (set e (place a f) v) c) ≡ is_shared (read_approach e c)
      go (yes p) = rw (p, read_own e a f v long ha hf, read_is e a, free_number c out (omega arith))
      go (no p) = rw (read_other e a f v long ha hf c hc p)

  pair_kept :
      (q : ℕ) → q < pair_count → reached_pair row a q ≡ false
      → pair_at k (set e (place a f) v) (2 * q) (2 * q + 1) ≡ pair_at k e (2 * q) (2 * q + 1)
  unfolding pair_at
  pair_kept q hq out =
      let first : reached_pair row a (2 * q / 2) ≡ false = let h : 2 * q / 2 ≡ q = omega arith in rw h out in
      let second : reached_pair row a ((2 * q + 1) / 2) ≡ false = let h : (2 * q + 1) / 2 ≡ q = omega arith in rw h out in
      rw (
        shared_kept (2 * q) (omega arith) first,
        shared_kept (2 * q + 1) (omega arith) second,
        rw (opposite_pair q).0 at (lines_kept (2 * q) (omega arith) first),
        rw (opposite_pair q).1 at (lines_kept (2 * q + 1) (omega arith) second),
      )

never : {A : Type 0} {t : Bool} → t ≡ true → t ≡ false → A
never p q = absurd (let z : ◌≡◌ {A = ℕ} 0 1 = cc in omega arith)

module _ (k : Worksheet) (e : List ℕ) (i v : ℕ) (long : length e ≡ entry_count) (hi : i < entry_count) where
  still_long : length (set e i v) ≡ entry_count
  still_long = length-set e i v ∙ long

  line_untouched :
      (c t : ℕ) → c < approach_count → t < line_count k → reached_line (reach_of (kind_at i)) (approach_at i) c (suc t) ≡ false
      → get_or (lines_at k (set e i v) c (opposite c)) t 0 ≡ get_or (lines_at k e c (opposite c)) t 0
  unfolding reached_line
  line_untouched c t hc ht =
      of_entry
      (λ i a kind. reached_line (reach_of kind) a c (suc t) ≡ false → get_or (lines_at k (set e i v) c (opposite c)) t 0 ≡ get_or (lines_at k e c (opposite c)) t 0)
      (λ a f ha hf. line_kept k e a f v long ha hf c t hc ht) (λ a. never refl) i hi

  pair_untouched :
      (q : ℕ) → q < pair_count → reached_pair (reach_of (kind_at i)) (approach_at i) q ≡ false
      → pair_at k (set e i v) (2 * q) (2 * q + 1) ≡ pair_at k e (2 * q) (2 * q + 1)
  unfolding reached_pair
  pair_untouched q hq =
      of_entry (λ i a kind. reached_pair (reach_of kind) a q ≡ false → pair_at k (set e i v) (2 * q) (2 * q + 1) ≡ pair_at k e (2 * q) (2 * q + 1))
      (λ a f ha hf. pair_kept k e a f v long ha hf q hq) (λ a. never refl) i hi

  -- a cell that the amendment does not reach holds the same in both sheets
  pub untouched : (j : ℕ) → j < sheet_count k → reached k i j ≡ false → get_or (sheet_for k (set e i v)) j 0 ≡ get_or (sheet_for k e) j 0
  untouched j hj out = go (dec_lt j entry_count) (dec_lt j (pairs_from k)) (dec_lt j (last_from k))
    where
      same_at :
          {n : ℕ} → j ≡ n → get_or (sheet_for k (set e i v)) n 0 ≡ get_or (sheet_for k e) n 0 → get_or (sheet_for k (set e i v)) j 0 ≡ get_or (sheet_for k e) j 0
      same_at p same = rw p same

      go : Dec (j < entry_count) → Dec (j < pairs_from k) → Dec (j < last_from k) → get_or (sheet_for k (set e i v)) j 0 ≡ get_or (sheet_for k e) j 0
      go (yes p) lined paired =
          entry_cell k (set e i v) still_long j p
          ∙ get_or-set_other e i j v 0 (eqb-false j i (sym (at_entry k i j p) ∙ out)) ∙ sym (entry_cell k e long j p)
      go (no o) (yes p) paired =
          let c = (j - lines_from) / line_count k in
          let t = (j - lines_from) % line_count k in
          let at = line_placed k j (omega arith) p in
          let kept : get_or (lines_at k (set e i v) c (opposite c)) t 0 ≡ get_or (lines_at k e c (opposite c)) t 0 =
          line_untouched c t at.few at.inside (sym (at_line k i j (omega arith) p) ∙ out) in
          same_at at.is
          (line_cell k (set e i v) still_long c t at.few at.inside ∙ kept ∙ sym (line_cell k e long c t at.few at.inside))
      go (no o) (no m) (yes p) =
          let q = (j - pairs_from k) / pair_cells k in
          let t = (j - pairs_from k) % pair_cells k in
          let at = pair_placed k j (omega arith) p in
          let kept : pair_at k (set e i v) (2 * q) (2 * q + 1) ≡ pair_at k e (2 * q) (2 * q + 1) =
          pair_untouched q at.few (sym (at_pair k i j (omega arith) p) ∙ out) in
          same_at at.is
          (pair_cell k (set e i v) still_long q t at.few at.inside ∙ ap (λ (l : List ℕ). get_or l t 0) kept
          ∙ sym (pair_cell k e long q t at.few at.inside))
      go (no o) (no m) (no p) = never (at_last k i j (omega arith)) out
