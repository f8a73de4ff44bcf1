-- Laws of answers: how checks that follow one another answer, and what checks in turn find.
use mathlib.Core.Path.{◌≡◌, refl, ◌∙◌, sym}
use mathlib.Core.Bool.{Bool, true, false, not}
use Prim.Native.Nat.{ℕ, zero, suc, ◌+◌, ◌-◌, ◌≤◌, ◌<◌}
use native.Mathlib.Nat.{add-zero, add-suc, suc-add, sub-zero, le_of_suc-le-suc, not-suc-le-zero}
use native.Mathlib.Numerals.{add-one}
use native.Mathlib.Omega.{arith}
use lib.Dec.{eqb}
use borrow.Author.Tests.{eqb-true, not-false}
use Rattle.answers.specs.Answers.{◌then◌, refuse_if, in_turn, left_by}
use Rattle.answers.specs.declared.Refusal.{Refusal}
use Rattle.answers.specs.declared.Refusal.TheVariants.{Size}
use Rattle.answers.specs.declared.Answer.{Answer}
use Rattle.answers.specs.declared.Answer.TheVariants.{Accepted, Refused}

-- an accepted check hands on to the next
pub go_on : {a : Answer} (next : Answer) → a ≡ Accepted → (a then next) ≡ next
go_on next e = rw e

-- a refusal is handed on as it is
pub hand_on : {a : Answer} {why : Refusal} {place : ℕ} (next : Answer) → a ≡ Refused why place → (a then next) ≡ a
hand_on next e = rw e

-- the same of what a call answered: a refusal is the answer of all, acceptance leaves the answer to the next
pub handed_on : {r a : Answer} {why : Refusal} {place : ℕ} (next : Answer) → r ≡ a → r ≡ Refused why place → r ≡ (a then next)
handed_on next e refused = e ∙ sym (hand_on next (sym e ∙ refused))

pub passed : {r s a : Answer} (next : Answer) → r ≡ a → r ≡ Accepted → s ≡ next → s ≡ (a then next)
passed next e accepted f = f ∙ sym (go_on next (sym e ∙ accepted))

-- a refusal leaves what was lent, and acceptance leaves the new
pub kept : {A : Type 0} {answer : Answer} {why : Refusal} {place : ℕ} (new old : A) → answer ≡ Refused why place → old ≡ left_by answer new old
kept new old e = rw e

pub renewed : {A : Type 0} {answer : Answer} (new old : A) → answer ≡ Accepted → new ≡ left_by answer new old
renewed new old e = rw e

-- all is accepted only if each check is
pub both_accepted : (a b : Answer) → (a then b) ≡ Accepted → (a ≡ Accepted) × (b ≡ Accepted)
both_accepted Accepted b e = (refl, e)
both_accepted (Refused why place) b e = absurd (let z : ◌≡◌ {A = ℕ} 0 1 = cc in omega arith)

-- a check that accepts has found its test false
pub not_refused : (bad : Bool) (why : Refusal) (place : ℕ) → refuse_if bad why place ≡ Accepted → bad ≡ false
not_refused true why place e = absurd (let z : ◌≡◌ {A = ℕ} 0 1 = cc in omega arith)
not_refused false why place e = refl

-- and the other way
pub refuses : {bad : Bool} (why : Refusal) (place : ℕ) → bad ≡ true → Refused why place ≡ refuse_if bad why place
refuses why place e = rw e

pub accepts : {bad : Bool} (why : Refusal) (place : ℕ) → bad ≡ false → refuse_if bad why place ≡ Accepted
accepts why place e = rw e

-- SIZE is not answered only of as many numbers as there should be
pub sized : (n count : ℕ) → refuse_if (not (eqb n count)) Size 0 ≡ Accepted → n ≡ count
sized n count h = eqb-true n count (not-false _ (not_refused (not (eqb n count)) Size 0 h))

-- checks in turn, of n, that have come to number i: what is left of them is the whole
pub record Searched (check : ℕ → Answer) (n i : ℕ) : Type 0 where
  pub few : i ≤ n
  pub rest : in_turn check 0 n ≡ in_turn check i (n - i)

module _ (check : ℕ → Answer) (n : ℕ) where
  pub search_starts : Searched check n 0
  search_starts = record { few = omega arith; rest = rw (sub-zero n) }

  one_more : (i : ℕ) → i < n → in_turn check i (n - i) ≡ (check i then in_turn check (i + 1) (n - (i + 1)))
  unfolding in_turn
  one_more i h =
      let e : n - i ≡ suc (n - (i + 1)) = omega arith in
      rw (e, add-one i)

  pub search_goes_on : (i : ℕ) → i < n → check i ≡ Accepted → Searched check n i → Searched check n (i + 1)
  search_goes_on i h good s = record { few = omega arith; rest = s.rest ∙ one_more i h ∙ go_on _ good }

  pub search_stops : {r : Answer} {why : Refusal} {place : ℕ} (i : ℕ) → i < n → r ≡ check i → r ≡ Refused why place → Searched check n i
      → r ≡ in_turn check 0 n
  search_stops i h e refused s = handed_on _ e refused ∙ sym (s.rest ∙ one_more i h)

  pub search_ends : (i : ℕ) → n ≤ i → Searched check n i → Accepted ≡ in_turn check 0 n
  unfolding in_turn
  search_ends i h s =
      let e : n - i ≡ 0 = omega arith in
      rw (s.rest, e)

-- where nothing is refused, each check is accepted
pub each_accepted : (check : ℕ → Answer) (i n : ℕ) → in_turn check i n ≡ Accepted → (j : ℕ) → j < n → check (i + j) ≡ Accepted
unfolding in_turn
each_accepted check i zero e j h = absurd (not-suc-le-zero h)
each_accepted check i (suc n) e zero h = rw (add-zero i) (both_accepted (check i) (in_turn check (suc i) n) e).0
each_accepted check i (suc n) e (suc j) h =
    rw (add-suc i j, ← suc-add i j)
    (each_accepted check (suc i) n (both_accepted (check i) (in_turn check (suc i) n) e).1 j (le_of_suc-le-suc h))

-- and the other way
pub all_accepted : (check : ℕ → Answer) (i n : ℕ) → ((j : ℕ) → i ≤ j → j < i + n → check j ≡ Accepted) → in_turn check i n ≡ Accepted
unfolding in_turn
all_accepted check i zero each = refl
all_accepted check i (suc n) each =
    go_on _ (each i (omega arith) (omega arith)) ∙ all_accepted check (suc i) n (λ j from to. each j (omega arith) (omega arith))

-- and checks that answer the same, answer the same in turn
pub same_in_turn : (check other : ℕ → Answer) (i n : ℕ) → ((j : ℕ) → i ≤ j → j < i + n → check j ≡ other j) → in_turn check i n ≡ in_turn other i n
unfolding in_turn
same_in_turn check other i zero each = refl
same_in_turn check other i (suc n) each =
    rw (each i (omega arith) (omega arith), same_in_turn check other (suc i) n (λ j from to. each j (omega arith) (omega arith)))
