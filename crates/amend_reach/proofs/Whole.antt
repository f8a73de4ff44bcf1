-- The copies together write what is reached: each copy's cells, part by part of the sheet, are those that the row reaches there.
use mathlib.Core.Path.{◌≡◌, refl, sym, ◌∙◌}
use mathlib.Core.Bool.{Bool, true, false, cond, ◌&&◌, ◌||◌, and-false, and-true, and_comm, or-false}
use mathlib.Core.List.{List}
use Prim.Native.Nat.{ℕ, suc, ◌+◌, ◌-◌, ◌/◌, ◌%◌, ◌≤◌, ◌<◌}
use native.Mathlib.Decide.{dec_lt, ℕ_discrete}
use native.Mathlib.Omega.{arith}
use lib.Dec.{eqb}
use lib.ListN.{length, get_or, set}
use borrow.Author.Tests.{eqb-true, ne_eqb}
use Rattle.layout.specs.declared.Worksheet.{Worksheet}
use Rattle.layout.specs.Entries.{approach_count, cycle_entry, entry_count}
use Rattle.layout.specs.Sheet.{line_count, lines_from, lines_of, pair_cells, pairs_from, pair_of, last_from, sheet_count}
use Rattle.kinds.specs.Kinds.{kind_at}
use Rattle.sheet_cells.specs.Cells.{opposite}
use Rattle.sheet_cells.proofs.Street.{street}
use Rattle.amend_reach.specs.declared.Reach.{Reach}
use Rattle.amend_reach.specs.Reach.{names, faces, reach_of, approach_at, reached_line, reached_pair, reached, merged_from, merged}
use Rattle.amend_reach.specs.Working.{run, run_if, lines_named, SameRow, street_cells}
use Rattle.amend_reach.proofs.Merging.{merged_one, merged_same, merged_again}
use Rattle.amend_reach.proofs.Blocks.{Placed, ends, line_placed, pair_placed}
use Rattle.amend_reach.proofs.Copies.{in_run, before_run, after_run, block_run}
use Rattle.amend_reach.proofs.Parts.{at_entry, at_line, at_pair, at_last}

module _ (k : Worksheet) where
  -- lines of approach a, at line t + 1 of approach c
  lines_at :
      (a c t j : ℕ) (test : ℕ → Bool) → j ≡ lines_of k c + t → t < line_count k
      → lines_named (line_count k) (lines_of k a) test j ≡ cond (eqb c a) (test (suc t)) false
  unfolding lines_named
  lines_at a c t j test at h = rw (block_run lines_from (line_count k) a c t j at h) (go (eqb c a) refl)
    where
      go : (own : Bool) → eqb c a ≡ own → (test (suc (j - lines_of k a)) && own) ≡ cond own (test (suc t)) false
      go true p =
          let here : j ≡ lines_of k a + t = rw (eqb-true c a p) at at in
          let line : j - lines_of k a ≡ t = omega arith in
          rw line (and-true (test (suc t)))
      go false p = and-false (test (suc (j - lines_of k a)))

  -- and where none of them stands
  before_lines : (first : ℕ) (test : ℕ → Bool) (j : ℕ) → j < first → lines_named (line_count k) first test j ≡ false
  unfolding lines_named
  before_lines first test j h = rw (before_run first (first + line_count k) j h) (and-false (test (suc (j - first))))

  after_lines : (first : ℕ) (test : ℕ → Bool) (j : ℕ) → first + line_count k ≤ j → lines_named (line_count k) first test j ≡ false
  unfolding lines_named
  after_lines first test j h = rw (after_run first (first + line_count k) j h) (and-false (test (suc (j - first))))

  -- a copy of the cells of m writes at j what a row reaches past the entries
  pub record Writes (reach : Reach) (a : ℕ) (m : ℕ → Bool) (j : ℕ) : Type 0 where
    pub entries : j < entry_count → m j ≡ false
    pub lines :
        lines_from ≤ j → j < pairs_from k → m j ≡ reached_line reach a ((j - lines_from) / line_count k) (suc ((j - lines_from) % line_count k))
    pub pairs : pairs_from k ≤ j → j < last_from k → m j ≡ reached_pair reach a ((j - pairs_from k) / pair_cells k)
    pub last : last_from k ≤ j → j < sheet_count k → m j ≡ true

  pub all_written : {reach : Reach} (a : ℕ) → reach.everywhere ≡ true → (j : ℕ) → Writes reach a (run lines_from (sheet_count k)) j
  unfolding reached_line reached_pair
  all_written a all j =
      record {
        entries = λ p. before_run lines_from (sheet_count k) j p;
        lines = λ h p. rw (in_run lines_from (sheet_count k) j h (omega arith), all);
        pairs = λ h p. rw (in_run lines_from (sheet_count k) j (omega arith) (omega arith), all);
        last = λ h p. in_run lines_from (sheet_count k) j (omega arith) p;
      }

module _ (k : Worksheet) (reach : Reach) (a : ℕ) (few : a < approach_count) (quiet : reach.everywhere ≡ false) (j : ℕ) where
  at_lines :
      lines_from ≤ j → j < pairs_from k
      → street_cells k reach a j ≡ reached_line reach a ((j - lines_from) / line_count k) (suc ((j - lines_from) % line_count k))
  unfolding street_cells run_if reached_line
  at_lines h p =
      rw (
        before_run (last_from k) (sheet_count k) j (omega arith),
        before_run (pair_of k (a / 2)) (pair_of k (a / 2) + pair_cells k) j (omega arith),
        and-false reach.pair,
        lines_at k (opposite a) c t j (faces reach.facing) at.is at.inside,
        lines_at k a c t j (names reach.own) at.is at.inside,
        quiet,
      )
      (go (eqb c a) refl (eqb c (opposite a)) refl)
    where
      c : ℕ
      c = (j - lines_from) / line_count k

      t : ℕ
      t = (j - lines_from) % line_count k

      at : Placed lines_from (line_count k) approach_count j
      at = line_placed k j h p

      own : Bool
      own = names reach.own (suc t)

      facing : Bool
      facing = faces reach.facing (suc t)

      go :
          (mine : Bool) → eqb c a ≡ mine → (other : Bool) → eqb c (opposite a) ≡ other
          → (cond other facing false || cond mine own false) ≡ cond mine own (cond other facing false)
      go true m true o = absurd ((street a few).other (sym (eqb-true c _ o) ∙ eqb-true c _ m))
      go true m false o = refl
      go false m true o = or-false facing
      go false m false o = refl

  at_pairs : pairs_from k ≤ j → j < last_from k → street_cells k reach a j ≡ reached_pair reach a ((j - pairs_from k) / pair_cells k)
  unfolding street_cells run_if reached_pair
  at_pairs h p =
      let at = pair_placed k j h p in
      let q = (j - pairs_from k) / pair_cells k in
      let cell = reach.pair && eqb q (a / 2) in
      rw (
        before_run (last_from k) (sheet_count k) j (omega arith),
        block_run (pairs_from k) (pair_cells k) (a / 2) q ((j - pairs_from k) % pair_cells k) j at.is at.inside,
        after_lines k (lines_of k (opposite a)) (faces reach.facing) j (omega (arith, ends k (opposite a) (street a few).few)),
        after_lines k (lines_of k a) (names reach.own) j (omega (arith, ends k a few)),
        quiet,
        or-false cell,
        or-false cell,
      )
      (and_comm reach.pair (eqb q (a / 2)))

  at_entries : j < entry_count → street_cells k reach a j ≡ false
  unfolding street_cells run_if
  at_entries h =
      rw (
        before_run (last_from k) (sheet_count k) j (omega arith),
        before_run (pair_of k (a / 2)) (pair_of k (a / 2) + pair_cells k) j (omega arith),
        and-false reach.pair,
        before_lines k (lines_of k (opposite a)) (faces reach.facing) j (omega arith),
        before_lines k (lines_of k a) (names reach.own) j (omega arith),
      )

  at_end : last_from k ≤ j → j < sheet_count k → street_cells k reach a j ≡ true
  unfolding street_cells
  at_end h p = rw (in_run (last_from k) (sheet_count k) j h p)

  pub street_written : Writes k reach a (street_cells k reach a) j
  street_written = record { entries = at_entries; lines = at_lines; pairs = at_pairs; last = at_end }

pub same_row : {r s : Reach} → SameRow r s → r ≡ s
same_row {r} {s} (own, facing, pair, everywhere) =
    let parts : r ≡ record { own = r.own; facing = r.facing; pair = r.pair; everywhere = r.everywhere } = refl in
    parts ∙ rw (own, facing, pair, everywhere)

-- what a copy of those cells makes of a sheet in which the entry itself is fresh
module _ (k : Worksheet) (fresh old : List ℕ) (same : length fresh ≡ length old) (long : length old ≡ sheet_count k) (i : ℕ) (hi : i < entry_count) where
  pub all_renewed :
      {m : ℕ → Bool} → ((j : ℕ) → Writes k (reach_of (kind_at i)) (approach_at i) m j)
      → merged_from m 0 fresh (set old i (get_or fresh i 0)) ≡ merged k i fresh old
  all_renewed {m} writes =
      rw (merged_one (λ j. eqb j i) fresh old same i (λ j. refl) (omega arith))
      (merged_again (λ j. eqb j i) m 0 fresh old
      ∙ merged_same (λ j. m j || eqb j i) fresh old same (reached k i)
      (λ j h. go j (rw long at h) (dec_lt j entry_count) (dec_lt j (pairs_from k)) (dec_lt j (last_from k))))
    where
      past : (j : ℕ) {t : Bool} → entry_count ≤ j → m j ≡ t → (m j || eqb j i) ≡ t
      past j h is = rw (ne_eqb j i (λ e. omega arith)) (or-false (m j) ∙ is)

      go : (j : ℕ) → j < sheet_count k → Dec (j < entry_count) → Dec (j < pairs_from k) → Dec (j < last_from k) → (m j || eqb j i) ≡ reached k i j
      go j h (yes p) _ _ = rw ((writes j).entries p) (sym (at_entry k i j p))
      go j h (no o) (yes p) _ = past j (omega arith) ((writes j).lines (omega arith) p) ∙ sym (at_line k i j (omega arith) p)
      go j h (no o) (no n) (yes p) = past j (omega arith) ((writes j).pairs (omega arith) p) ∙ sym (at_pair k i j (omega arith) p)
      go j h (no o) (no n) (no p) = past j (omega arith) ((writes j).last (omega arith) h) ∙ sym (at_last k i j (omega arith))

-- an entry that does not reach everywhere is not the cycle
pub not_cycle : (i : ℕ) → i < entry_count → (reach_of (kind_at i)).everywhere ≡ false → i < cycle_entry
unfolding kind_at
not_cycle i h quiet = go (ℕ_discrete i cycle_entry)
  where
    go : Dec (i ≡ cycle_entry) → i < cycle_entry
    go (yes p) = absurd (let z : ◌≡◌ {A = Bool} true false = rw p at quiet in let n : ◌≡◌ {A = ℕ} 0 1 = cc in omega arith)
    go (no p) = omega arith
