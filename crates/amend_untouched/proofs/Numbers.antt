-- An approach as its numbers: where each stands among the entries, and what an amendment makes of them.
use mathlib.Core.Path.{◌≡◌, refl, sym, ◌∙◌, ap, subst, fun_ext}
use mathlib.Core.Bool.{Bool, true, false, cond}
use mathlib.Core.Logic.{◌⊎◌, inl, inr, ⊎_elim}
use mathlib.Core.List.{List}
use Prim.Native.Nat.{ℕ, ◌+◌, ◌-◌, ◌*◌, ◌/◌, ◌%◌, ◌≤◌, ◌<◌}
use native.Mathlib.Nat.{add-zero}
use native.Mathlib.Decide.{dec_lt}
use native.Mathlib.Omega.{arith}
use lib.Dec.{ltb, eqb}
use lib.ListN.{length, get_or, set}
use lib.Seq.{get_or-set_same, get_or-set_other}
use borrow.Author.Tests.{ltb-true, ltb-false, eqb-true, eqb-false, lt-ltb, le-ltb}
use Rattle.layout.specs.Entries.{approach_count, group_count, movement_entries, approaches_from, approach_entries, cycle_entry, entry_count}
use Rattle.layout.specs.Entries.{left, through, right, movement_place, approach_place, lanes_no, volume_no, ideal_no, lost_no, green_no, factor_no}
use Rattle.layout.specs.Entries.{shared_no, walkers_no, button_no, crossing_no, free_no}
use Rattle.kinds.specs.declared.Kind.{Kind}
use Rattle.kinds.specs.declared.Kind.TheVariants.{Cycle}
use Rattle.kinds.specs.Kinds.{kind_at, movement_kind, approach_kind}
use Rattle.entries.specs.Layout.{movement_entry, approach_entry}
use Rattle.procedure.specs.declared.Movement.{Movement}
use Rattle.procedure.specs.declared.Approach.{Approach}
use Rattle.procedure.specs.Approach.{read_movement, read_approach}
use Rattle.amend_reach.specs.Reach.{approach_at}

-- the first numbers are the entries of left, through and right, the others the approach's own
abbrev pub own_from : ℕ
own_from = group_count * movement_entries

abbrev pub number_count : ℕ
number_count = own_from + approach_entries

abbrev movement_from : (ℕ → ℕ) → ℕ → Movement
movement_from g m =
    record {
      lanes = record { 0 = g (movement_place m lanes_no); 1 = record {} };
      volume = record { 0 = record { 0 = g (movement_place m volume_no) }; 1 = record {} };
      ideal = record { 0 = record { 0 = g (movement_place m ideal_no) }; 1 = record {} };
      lost = record { 0 = record { 0 = g (movement_place m lost_no) }; 1 = record {} };
      green = record { 0 = record { 0 = g (movement_place m green_no) }; 1 = record {} };
      measured = record { 0 = g (movement_place m factor_no); 1 = record {} };
    }

abbrev pub approach_from : (ℕ → ℕ) → Approach
approach_from g =
    record {
      left = movement_from g (left 0);
      through = movement_from g (through 0);
      right = movement_from g (right 0);
      shared = record { 0 = g (own_from + shared_no); 1 = record {} };
      walkers = record { 0 = g (own_from + walkers_no); 1 = record {} };
      button = record { 0 = g (own_from + button_no); 1 = record {} };
      crossing = record { 0 = record { 0 = g (own_from + crossing_no) }; 1 = record {} };
      free = record { 0 = g (own_from + free_no); 1 = record {} };
    }

-- number f changed to x
abbrev pub but : ℕ → ℕ → (ℕ → ℕ) → ℕ → ℕ
but f x g j = cond (eqb j f) x (g j)

abbrev pub field_kind : ℕ → Kind
field_kind f = cond (ltb f own_from) (movement_kind (f % movement_entries)) (approach_kind (f - own_from))

-- the entry that is number f of approach a
pub place : ℕ → ℕ → ℕ
place a f =
    cond (ltb f own_from) (movement_place (group_count * a + f / movement_entries) (f % movement_entries)) (approach_place a (f - own_from))

-- the number that an entry is
pub field_at : ℕ → ℕ
field_at i = cond (ltb i approaches_from) (i % own_from) (own_from + (i - approaches_from) % approach_entries)

pub numbers : List ℕ → ℕ → ℕ → ℕ
numbers e a f = get_or e (place a f) 0

pub read_is : (e : List ℕ) (a : ℕ) → read_approach e a ≡ approach_from (numbers e a)
unfolding read_approach read_movement movement_entry approach_entry numbers place
read_is e a = rw (add-zero (group_count * a))

-- an entry's place, by the numbers that come before it
Stood : ℕ → ℕ → ℕ → Type 0
Stood a f p = ((f < own_from) × (p ≡ own_from * a + f)) ⊎ ((own_from ≤ f) × (p ≡ approaches_from + approach_entries * a + (f - own_from)))

place_cases : (a f : ℕ) → Stood a f (place a f)
unfolding place Stood
place_cases a f = go (ltb f own_from) refl
  where
    go :
        (t : Bool) → ltb f own_from ≡ t
        → Stood a f (cond t (movement_place (group_count * a + f / movement_entries) (f % movement_entries)) (approach_place a (f - own_from)))
    go true h = let few : f < own_from = ltb-true f own_from h in inl (few, omega arith)
    go false h = let many : own_from ≤ f = ltb-false f own_from h in inr (many, refl)

-- two numbers stand at one place only if they are the same number of the same approach
place_once :
    (a c f j : ℕ) → a < approach_count → c < approach_count → f < number_count → j < number_count → place a f ≡ place c j → (a ≡ c) × (f ≡ j)
unfolding Stood
place_once a c f j ha hc hf hj e =
    ⊎_elim (λ p. ⊎_elim (λ q. omega arith) (λ q. omega arith) (place_cases c j))
    (λ p. ⊎_elim (λ q. omega arith) (λ q. omega arith) (place_cases c j)) (place_cases a f)

pub place_below : (a f : ℕ) → a < approach_count → f < number_count → place a f < cycle_entry
unfolding Stood
place_below a f ha hf = ⊎_elim (λ p. omega arith) (λ p. omega arith) (place_cases a f)

-- an entry below the cycle is a number of its approach
record Stands (i : ℕ) : Type 0 where
  pub approach : approach_at i < approach_count
  pub field : field_at i < number_count
  pub is : place (approach_at i) (field_at i) ≡ i
  pub kind : kind_at i ≡ field_kind (field_at i)

stands : (i : ℕ) → i < cycle_entry → Stands i
unfolding approach_at field_at kind_at Stood
stands i h = go (dec_lt i approaches_from)
  where
    known : (a f : ℕ) → approach_at i ≡ a → field_at i ≡ f → a < approach_count → f < number_count → place a f ≡ i → kind_at i ≡ field_kind f → Stands i
    known a f p q few small is kind = record { approach = rw p few; field = rw q small; is = rw (p, q) is; kind = rw q kind }

    movement : i < approaches_from → kind_at i ≡ field_kind (i % own_from)
    movement p =
        let same : i % own_from % movement_entries ≡ i % movement_entries = omega arith in
        rw (lt-ltb i approaches_from p, lt-ltb (i % own_from) own_from (omega arith), same)

    side : approaches_from ≤ i → kind_at i ≡ field_kind (own_from + (i - approaches_from) % approach_entries)
    side p =
        let j = (i - approaches_from) % approach_entries in
        let same : own_from + j - own_from ≡ j = omega arith in
        rw (le-ltb i approaches_from p, lt-ltb i cycle_entry h, le-ltb (own_from + j) own_from (omega arith), same)

    go : Dec (i < approaches_from) → Stands i
    go (yes p) =
        let a = i / movement_entries / group_count in
        known a (i % own_from) (rw (lt-ltb i approaches_from p)) (rw (lt-ltb i approaches_from p)) (omega arith) (omega arith)
        (⊎_elim (λ q. omega arith) (λ q. omega arith) (place_cases a (i % own_from))) (movement p)
    go (no p) =
        let many : approaches_from ≤ i = omega arith in
        let a = (i - approaches_from) / approach_entries in
        let f = own_from + (i - approaches_from) % approach_entries in
        known a f (rw (le-ltb i approaches_from many)) (rw (le-ltb i approaches_from many)) (omega arith) (omega arith)
        (⊎_elim (λ q. omega arith) (λ q. omega arith) (place_cases a f)) (side many)

-- so what holds of every number of an approach and of the cycle holds of every entry
pub of_entry :
    (P : ℕ → ℕ → Kind → Type 0) → ((a f : ℕ) → a < approach_count → f < number_count → P (place a f) a (field_kind f))
    → ((a : ℕ) → P cycle_entry a Cycle) → (i : ℕ) → i < entry_count → P i (approach_at i) (kind_at i)
unfolding kind_at
of_entry P number cycle i h = go (dec_lt i cycle_entry)
  where
    go : Dec (i < cycle_entry) → P i (approach_at i) (kind_at i)
    go (yes p) =
        let s = stands i p in
        rw s.kind
        (subst (λ (j : ℕ). P j (approach_at i) (field_kind (field_at i))) s.is (number (approach_at i) (field_at i) s.approach s.field))
    go (no p) = let last : i ≡ cycle_entry = omega arith in rw last (cycle (approach_at cycle_entry))

-- no other number counts
from_same : (g h : ℕ → ℕ) → ((j : ℕ) → j < number_count → g j ≡ h j) → approach_from g ≡ approach_from h
from_same g h same = ap approach_from (fun_ext (λ j. go j (ltb j number_count) refl))
  where
    go : (j : ℕ) (t : Bool) → ltb j number_count ≡ t → cond t (g j) 0 ≡ cond t (h j) 0
    go j true p = same j (ltb-true j number_count p)
    go j false p = refl

module _ (e : List ℕ) (a f v : ℕ) (long : length e ≡ entry_count) (ha : a < approach_count) (hf : f < number_count) where
  -- the approach whose number is amended
  pub read_own : read_approach (set e (place a f) v) a ≡ approach_from (but f v (numbers e a))
  unfolding numbers
  read_own =
      read_is (set e (place a f) v) a
      ∙ from_same (numbers (set e (place a f) v) a) (but f v (numbers e a)) (λ j hj. go j hj (eqb j f) refl)
    where
      go :
          (j : ℕ) → j < number_count → (t : Bool) → eqb j f ≡ t
          → get_or (set e (place a f) v) (place a j) 0 ≡ cond t v (get_or e (place a j) 0)
      go j hj true h = rw (eqb-true j f h) (get_or-set_same e (place a f) v 0 (omega (arith, place_below a f ha hf)))
      go j hj false h = get_or-set_other e (place a f) (place a j) v 0 (λ p. eqb-false j f h (place_once a a j f ha ha hj hf p).1)

  -- every other
  pub read_other : (c : ℕ) → c < approach_count → (c ≡ a → ⊥) → read_approach (set e (place a f) v) c ≡ read_approach e c
  unfolding numbers
  read_other c hc other =
      read_is (set e (place a f) v) c
      ∙ from_same (numbers (set e (place a f) v) c) (numbers e c)
      (λ j hj. get_or-set_other e (place a f) (place c j) v 0 (λ p. other (place_once c a j f hc ha hj hf p).0))
      ∙ sym (read_is e c)
