-- What is read of widened entries: of a movement what it had, and no measured factor; of an approach and the cycle what was there.
use mathlib.Core.Path.{◌≡◌, ap, ◌∙◌}
use mathlib.Core.List.{List}
use Prim.Native.Nat.{ℕ, ◌+◌, ◌-◌, ◌*◌, ◌/◌, ◌%◌, ◌<◌}
use native.Mathlib.Omega.{arith}
use lib.ListN.{length, get_or}
use borrow.Author.Tests.{lt-ltb, le-ltb, eq-eqb, ne_eqb}
use Rattle.lists.proofs.Laws.{length-table, table_at}
use Rattle.layout.specs.Entries.{movement_count, movement_entries, factor_no, approaches_from, entry_count, movement_place}
use Rattle.study_before.specs.Before.{movement_before, approaches_before, widened_at, widened}

pub length-widened : (e : List ℕ) → length (widened e) ≡ entry_count
unfolding widened
length-widened e = length-table (widened_at e) entry_count

pub at_place : (e : List ℕ) (i : ℕ) → i < entry_count → get_or (widened e) i 0 ≡ widened_at e i
unfolding widened
at_place e i h = table_at (widened_at e) entry_count i h

-- entry j of movement m
pub widened_movement : (e : List ℕ) (m j : ℕ) → m < movement_count → j < movement_before
    → get_or (widened e) (movement_place m j) 0 ≡ get_or e (movement_before * m + j) 0
unfolding widened_at
widened_movement e m j few before =
    let i = movement_place m j in
    let row : i / movement_entries ≡ m = omega arith in
    let number : i % movement_entries ≡ j = omega arith in
    let other = ne_eqb (i % movement_entries) factor_no (λ is. omega (arith, number)) in
    at_place e i (omega arith) ∙ simp (lt-ltb i approaches_from (omega arith), other) (rw (row, number))

pub of_factor : (e : List ℕ) (m : ℕ) → m < movement_count → get_or (widened e) (movement_place m factor_no) 0 ≡ 0
unfolding widened_at
of_factor e m few =
    let i = movement_place m factor_no in
    let number : i % movement_entries ≡ factor_no = omega arith in
    at_place e i (omega arith) ∙ simp (lt-ltb i approaches_from (omega arith), eq-eqb _ _ number)

-- what stands past the movements
pub past_movements : (e : List ℕ) (k : ℕ) → approaches_from + k < entry_count → get_or (widened e) (approaches_from + k) 0 ≡ get_or e (approaches_before + k) 0
unfolding widened_at
past_movements e k h =
    let i = approaches_from + k in
    let place : i - (approaches_from - approaches_before) ≡ approaches_before + k = omega arith in
    at_place e i h ∙ simp (le-ltb i approaches_from (omega arith)) (ap (λ n. get_or e n 0) place)
