-- An add gets the lowest free place exactly when one is free, and FULL is told exactly when none is.
use mathlib.Core.Path.{◌≡◌, refl, sym, ap, ◌∙◌}
use mathlib.Core.Logic.{◌≢◌}
use mathlib.Core.Bool.{Bool, true, false, not}
use mathlib.Core.List.{List}
use Prim.Native.Nat.{ℕ, zero, suc, ◌≤◌, ◌<◌}
use native.Mathlib.Decide.{dec_lt}
use native.Mathlib.Omega.{arith}
use lib.Dec.{eqb}
use lib.ListN.{length, get_or}
use borrow.Author.Tests.{le-leb, lt-leb}
use Rattle.answers.specs.Answers.{◌then◌, refuse_if, in_turn, number_of, refusal_number}
use Rattle.answers.specs.declared.Refusal.{Refusal}
use Rattle.answers.specs.declared.Refusal.TheVariants.{Size, Owner, Full}
use Rattle.answers.specs.declared.Answer.{Answer}
use Rattle.answers.specs.declared.Answer.TheVariants.{Accepted, Refused}
use Rattle.layout.specs.declared.Worksheet.TheVariants.{Junction}
use Rattle.layout.specs.Entries.{entry_count}
use Rattle.layout.specs.Open.{place_count, blocks_count}
use Rattle.entries.specs.declared.Fault.{Fault}
use Rattle.entries.specs.declared.Fault.TheVariants.{Range, Shared, NoLane}
use Rattle.entries.specs.Judging.{size_answer, refusal_of, count_of, faulty, each_answer, judged_for, judged}
use Rattle.open_rules.specs.Open.{Study, free, study_size, add_owner, lowest_free, full_answer, may_add, add_answer}
use Rattle.open_rules.proofs.Laws.{get_or-lowest_free, lower_taken}

-- ---- which refusals come before FULL

then_most : (n : ℕ) (a b : Answer) → number_of a ≤ n → number_of b ≤ n → number_of (a then b) ≤ n
then_most n Accepted b one two = two
then_most n (Refused why place) b one two = one

if_most : (n : ℕ) (bad : Bool) (why : Refusal) (place : ℕ) → refusal_number why ≤ n → number_of (refuse_if bad why place) ≤ n
if_most n true why place h = h
if_most n false why place h = omega arith

turn_most : (n : ℕ) (check : ℕ → Answer) (i left : ℕ) → ((j : ℕ) → number_of (check j) ≤ n) → number_of (in_turn check i left) ≤ n
unfolding in_turn
turn_most n check i zero each = omega arith
turn_most n check i (suc left) each = then_most n (check i) _ (each i) (turn_most n check (suc i) left each)

fault_most : (fault : Fault) → refusal_number (refusal_of fault) ≤ 9
fault_most Range = omega arith
fault_most Shared = omega arith
fault_most NoLane = omega arith

each_most : (e : List ℕ) (fault : Fault) → number_of (each_answer Junction e fault) ≤ 9
each_most e fault =
    turn_most 9 (λ j. refuse_if (faulty Junction e fault j) (refusal_of fault) j) 0 (count_of fault)
    (λ j. if_most 9 (faulty Junction e fault j) (refusal_of fault) j (fault_most fault))

size_most : (n count : ℕ) → number_of (refuse_if (not (eqb n count)) Size 0) ≤ 9
size_most n count = if_most 9 (not (eqb n count)) Size 0 (omega arith)

entries_most : (e : List ℕ) → number_of (size_answer e) ≤ 9
unfolding size_answer
entries_most e = size_most (length e) entry_count

judged_most : (e : List ℕ) → number_of (judged e) ≤ 9
unfolding judged_for
judged_most e =
    then_most 9 (size_answer e) _ (entries_most e)
    (then_most 9 (each_answer Junction e Range) _ (each_most e Range)
    (then_most 9 (each_answer Junction e Shared) (each_answer Junction e NoLane) (each_most e Shared) (each_most e NoLane)))

study_most : (S : Study) → number_of (study_size S) ≤ 9
unfolding study_size
study_most S =
    then_most 9 (refuse_if (not (eqb (length S.owners) place_count)) Size 0) (refuse_if (not (eqb (length S.blocks) blocks_count)) Size 0)
    (size_most (length S.owners) place_count) (size_most (length S.blocks) blocks_count)

office_most : (office : ℕ) → number_of (add_owner office) ≤ 9
unfolding add_owner
office_most office = if_most 9 (eqb office free) Owner 0 (omega arith)

before_full : (S : Study) (office : ℕ) (e : List ℕ) → number_of (may_add S office e) ≤ 9
unfolding may_add
before_full S office e =
    then_most 9 (study_size S) _ (study_most S)
    (then_most 9 (size_answer e) _ (entries_most e) (then_most 9 (add_owner office) (judged e) (office_most office) (judged_most e)))

-- ---- what an add finds

module _ (S : Study) (office : ℕ) (e : List ℕ) where
  -- a place that is free at all is no lower than the lowest
  lowest_below : (s : ℕ) → get_or S.owners s free ≡ free → lowest_free S.owners ≤ s
  lowest_below s is = by (dec_lt s (lowest_free S.owners))
    where
      by : Dec (s < lowest_free S.owners) → lowest_free S.owners ≤ s
      by (yes below) = absurd (lower_taken S.owners s below is)
      by (no above) = omega arith

  -- where a place is free, an add that may be made is
  pub gets_place : may_add S office e ≡ Accepted → (s : ℕ) → s < length S.owners → get_or S.owners s free ≡ free → add_answer S office e ≡ Accepted
  unfolding add_answer full_answer
  gets_place may s there is = rw (may, lt-leb (length S.owners) (lowest_free S.owners) (omega (arith, lowest_below s is, there)))

  -- where none is, it is told FULL
  pub told_full : may_add S office e ≡ Accepted → ((s : ℕ) → s < length S.owners → get_or S.owners s free ≢ free) → add_answer S office e ≡ Refused Full 0
  unfolding add_answer full_answer
  told_full may none = rw (may, le-leb (length S.owners) (lowest_free S.owners) (by (dec_lt (lowest_free S.owners) (length S.owners))))
    where
      by : Dec (lowest_free S.owners < length S.owners) → length S.owners ≤ lowest_free S.owners
      by (yes there) = absurd (none (lowest_free S.owners) there (get_or-lowest_free S.owners))
      by (no past) = omega arith

  -- and FULL is told of nothing else
  pub full_only : number_of (add_answer S office e) ≡ refusal_number Full → (s : ℕ) → s < length S.owners → get_or S.owners s free ≢ free
  unfolding add_answer full_answer
  full_only told s there is = by (may_add S office e) refl told
    where
      by : (answer : Answer) → may_add S office e ≡ answer → number_of (answer then full_answer S.owners) ≡ refusal_number Full → ⊥
      by Accepted may told =
          let one : number_of (add_answer S office e) ≡ 0 = ap number_of (gets_place may s there is) in
          omega (arith, told, sym (ap (λ a. number_of (a then full_answer S.owners)) may) ∙ one)
      by (Refused why place) may told = omega (arith, told, ap number_of may, before_full S office e)
