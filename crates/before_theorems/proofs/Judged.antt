-- Entries that were acceptable before are acceptable widened: each stands in its kind's range, the measured factors are 0, and lanes, volumes
-- and shared lanes are the same numbers.
use mathlib.Core.Path.{◌≡◌, refl, ap, ◌∙◌}
use mathlib.Core.Bool.{Bool, true, false, cond, not}
use mathlib.Core.List.{List}
use Prim.Native.Nat.{ℕ, ◌+◌, ◌-◌, ◌*◌, ◌/◌, ◌%◌, ◌<◌}
use lib.Dec.{eqb, ltb, lit<}
use lib.ListN.{length, get_or}
use borrow.Author.Tests.{lt-ltb, le-ltb, eq-eqb, not-false}
use native.Mathlib.Decide.{dec_lt}
use native.Mathlib.Nat.{zero-add}
use native.Mathlib.Omega.{arith}
use Rattle.answers.specs.Answers.{refuse_if, lowest}
use Rattle.answers.specs.declared.Refusal.{Refusal}
use Rattle.answers.specs.declared.Refusal.TheVariants.{Size, Range, Shared, NoLane}
use Rattle.answers.specs.declared.Answer.TheVariants.{Accepted}
use Rattle.answers.proofs.Laws.{go_on, both_accepted, not_refused, accepts, each_accepted, all_accepted}
use Rattle.layout.specs.declared.Worksheet.TheVariants.{Junction}
use Rattle.layout.specs.Entries.{approach_count, group_count, movement_count, movement_entries, factor_no, approaches_from, approach_entries, cycle_entry, entry_count}
use Rattle.layout.specs.Entries.{left, through, lanes_no, volume_no, shared_no, movement_place, approach_place}
use Rattle.kinds.specs.declared.Group.{Group}
use Rattle.kinds.specs.declared.Group.TheVariants.{Left, Through, Right}
use Rattle.kinds.specs.Kinds.{in_range, kind_at, movement_kind, approach_kind, group_of}
use Rattle.kinds.specs.declared.Kind.TheVariants.{Cycle}
use Rattle.entries.specs.Layout.{movement_entry, approach_entry}
use Rattle.entries.specs.Judging.{size_answer, outside, badly_shared, other_lanes, unserved, judged_for, judged}
use Rattle.study_before.specs.Before.{movement_before, approaches_before, cycle_before, entries_before, widened}
use Rattle.study_before.proofs.Laws.{length-widened, widened_movement, of_factor, past_movements}
use Rattle.before_theorems.specs.Before.{of_movement, of_approach, kind_then, outside_then, badly_shared_then, other_lanes_then, unserved_then, judged_then}

-- what was looked for in all places and found in none
none_found : (bad : ℕ → Bool) (why : Refusal) (n : ℕ) → lowest bad why 0 n ≡ Accepted → (i : ℕ) → i < n → bad i ≡ false
none_found bad why n ok i h =
    not_refused (bad i) why i (rw (zero-add i) at (each_accepted (λ j. refuse_if (bad j) why j) 0 n ok i h))

none_there : (bad : ℕ → Bool) (why : Refusal) (n : ℕ) → ((i : ℕ) → i < n → bad i ≡ false) → lowest bad why 0 n ≡ Accepted
none_there bad why n each = all_accepted (λ j. refuse_if (bad j) why j) 0 n (λ j from to. accepts why j (each j (omega arith)))

-- past the movements the kinds stand in the same order
kind_kept : (k : ℕ) → kind_at (approaches_from + k) ≡ kind_then (approaches_before + k)
unfolding kind_at
kind_kept k =
    let back : approaches_from + k - approaches_from ≡ k = omega arith in
    let back_then : approaches_before + k - approaches_before ≡ k = omega arith in
    rw (le-ltb (approaches_from + k) approaches_from (omega arith), le-ltb (approaches_before + k) approaches_before (omega arith), back, back_then)
    (go (dec_lt k (cycle_before - approaches_before)))
  where
    go : Dec (k < cycle_before - approaches_before)
        → cond (ltb (approaches_from + k) cycle_entry) (approach_kind (k % approach_entries)) Cycle
        ≡ cond (ltb (approaches_before + k) cycle_before) (approach_kind (k % approach_entries)) Cycle
    go (yes h) = rw (lt-ltb (approaches_from + k) cycle_entry (omega arith), lt-ltb (approaches_before + k) cycle_before (omega arith))
    go (no h) = rw (le-ltb (approaches_from + k) cycle_entry (omega arith), le-ltb (approaches_before + k) cycle_before (omega arith))

module _ (e : List ℕ) where
  -- an entry of a movement, and what stands past them
  pub own : (m j : ℕ) → m < movement_count → j < movement_before → movement_entry (widened e) m j ≡ of_movement e m j
  unfolding movement_entry
  own = widened_movement e

  pub side : (a j : ℕ) → a < approach_count → j < approach_entries → approach_entry (widened e) a j ≡ of_approach e a j
  unfolding approach_entry
  side a j few h =
      let place : approach_place a j ≡ approaches_from + (approach_entries * a + j) = omega arith in
      ap (λ p. get_or (widened e) p 0) place ∙ past_movements e (approach_entries * a + j) (omega arith)

  -- RANGE
  module _ (ranged : (p : ℕ) → p < entries_before → outside_then e p ≡ false) where
    in_range_then : (p : ℕ) → p < entries_before → in_range (kind_then p) (get_or e p 0) ≡ true
    unfolding outside_then
    in_range_then p h = not-false _ (ranged p h)

    within_movement : (m j : ℕ) → m < movement_count → j < movement_entries → in_range (movement_kind j) (get_or (widened e) (movement_place m j) 0) ≡ true
    within_movement m j few h = go (dec_lt j movement_before)
      where
        go : Dec (j < movement_before) → in_range (movement_kind j) (get_or (widened e) (movement_place m j) 0) ≡ true
        go (yes had) =
            let p = movement_before * m + j in
            let number : p % movement_before ≡ j = omega arith in
            rw (widened_movement e m j few had)
            (rw (lt-ltb p approaches_before (omega arith), number) at (in_range_then p (omega arith)))
        go (no new) =
            let is : j ≡ factor_no = omega arith in
            rw (is, of_factor e m few)

    within_rest : (k : ℕ) → approaches_from + k < entry_count → in_range (kind_at (approaches_from + k)) (get_or (widened e) (approaches_from + k) 0) ≡ true
    within_rest k h = rw (kind_kept k, past_movements e k h) (in_range_then (approaches_before + k) (omega arith))

    pub range_kept : (p : ℕ) → p < entry_count → outside (widened e) p ≡ false
    unfolding outside kind_at
    range_kept p h = ap not (go (dec_lt p approaches_from))
      where
        go : Dec (p < approaches_from) → in_range (kind_at p) (get_or (widened e) p 0) ≡ true
        go (yes before) =
            let m = p / movement_entries in
            let j = p % movement_entries in
            let is : movement_place m j ≡ p = omega arith in
            rw (lt-ltb p approaches_from before) (rw is at (within_movement m j (omega arith) (omega arith)))
        go (no past) =
            let is : approaches_from + (p - approaches_from) ≡ p = omega arith in
            rw is at (within_rest (p - approaches_from) (omega arith))

  -- SHARED and NOLANE ask the same numbers
  shared_kept : (a : ℕ) → a < approach_count → badly_shared Junction (widened e) a ≡ badly_shared_then e a
  unfolding badly_shared badly_shared_then
  shared_kept a few =
      rw (
        side a shared_no few (lit< tt),
        own (left a) lanes_no (omega arith) (lit< tt),
        own (through a) lanes_no (omega arith) (lit< tt),
      )

  other_kept : (a : ℕ) → a < approach_count → (g : Group) → other_lanes (widened e) a g ≡ other_lanes_then e a g
  unfolding other_lanes other_lanes_then
  other_kept a few Left = side a shared_no few (lit< tt)
  other_kept a few Through = refl
  other_kept a few Right = own (through a) lanes_no (omega arith) (lit< tt)

  unserved_kept : (m : ℕ) → m < movement_count → unserved (widened e) m ≡ unserved_then e m
  unfolding unserved unserved_then
  unserved_kept m few =
      rw (
        own m volume_no few (lit< tt),
        own m lanes_no few (lit< tt),
        other_kept (m / group_count) (omega arith) (group_of m),
      )

  pub acceptable_kept : judged_then e ≡ Accepted → judged (widened e) ≡ Accepted
  unfolding judged_then judged_for size_answer
  acceptable_kept ok =
      let sized = both_accepted (refuse_if (not (eqb (length e) entries_before)) Size 0) _ ok in
      let first = both_accepted (lowest (outside_then e) Range 0 entries_before) _ sized.1 in
      let second = both_accepted (lowest (badly_shared_then e) Shared 0 approach_count) _ first.1 in
      let ranged = none_found (outside_then e) Range entries_before first.0 in
      let shared = none_found (badly_shared_then e) Shared approach_count second.0 in
      let served = none_found (unserved_then e) NoLane movement_count second.1 in
      go_on _ (accepts Size 0 (ap not (eq-eqb (length (widened e)) entry_count (length-widened e))))
      ∙ go_on _ (none_there (outside (widened e)) Range entry_count (range_kept ranged))
      ∙ go_on _ (none_there (badly_shared Junction (widened e)) Shared approach_count (λ a h. shared_kept a h ∙ shared a h))
      ∙ none_there (unserved (widened e)) NoLane movement_count (λ m h. unserved_kept m h ∙ served m h)
