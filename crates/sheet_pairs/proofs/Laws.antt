-- The picked phasing is the least, so what goes by it is a time and never BLANK.
use mathlib.Core.Path.{◌≡◌, refl}
use mathlib.Core.Bool.{Bool, true, false, cond, ◌&&◌, ◌||◌}
use mathlib.Core.List.{List}
use mathlib.Core.Logic.{⊎_elim, ◌⊎◌, inl, inr}
use Prim.Native.Nat.{ℕ, ◌≤◌, ◌<◌, max}
use native.Mathlib.Omega.{arith}
use lib.Dec.{eqb, leb}
use borrow.Author.Tests.{leb-true}
use Rattle.layout.specs.Sheet.{BLANK}
use Rattle.procedure.specs.Pairs.{line, protected, permitted, split, picked, pair, pick_of, picked_time, through_time, left_time}
use Rattle.line_bounds.specs.Bounds.{most_adjusted, most_picked, Bounded}

-- which of three times is picked, and that it is at most the third
Picks : ℕ → ℕ → ℕ → ℕ → Type 0
Picks p m s k = ((k ≡ 0) × (p ≤ s)) ⊎ (((k ≡ 1) × (m ≤ s)) ⊎ (k ≡ 2))

pick_cases : (p m s : ℕ) → Picks p m s (picked p m s)
unfolding picked Picks
pick_cases p m s = go (leb p m) (leb p s) (leb m s) refl refl
  where
    go : (x y z : Bool) → leb p s ≡ y → leb m s ≡ z → Picks p m s (cond (x && y) 0 (cond z 1 2))
    go true true z e f = inl (refl, leb-true p s e)
    go true false true e f = inr (inl (refl, leb-true m s f))
    go true false false e f = inr (inr refl)
    go false y true e f = inr (inl (refl, leb-true m s f))
    go false y false e f = inr (inr refl)

-- either of two times is at most their permitted time, where that is no BLANK
permitted_parts :
    (x y : ℕ) → cond (eqb x BLANK || eqb y BLANK) BLANK (max x y) < BLANK
    → (x ≤ cond (eqb x BLANK || eqb y BLANK) BLANK (max x y)) × (y ≤ cond (eqb x BLANK || eqb y BLANK) BLANK (max x y))
permitted_parts x y h = go (eqb x BLANK) (eqb y BLANK) h
  where
    go : (s t : Bool) → cond (s || t) BLANK (max x y) < BLANK → (x ≤ cond (s || t) BLANK (max x y)) × (y ≤ cond (s || t) BLANK (max x y))
    go true t p = absurd (let z : ◌≡◌ {A = ℕ} 0 1 = omega arith in omega arith)
    go false true p = absurd (let z : ◌≡◌ {A = ℕ} 0 1 = omega arith in omega arith)
    go false false p = (omega arith, omega arith)

module _ (shared : Bool) (x y : List ℕ) (bx : Bounded x) (by : Bounded y) where
  -- a protected time, where no lane is shared
  pub protected_most : protected false x y ≤ most_picked
  unfolding protected
  protected_most = omega (arith, bx.line16, bx.line17, by.line16, by.line17)

  pub split_most : split x y ≤ most_picked
  unfolding split
  split_most = omega (arith, bx.line28, by.line28)

  pub pick_few : pick_of (pair shared x y) ≤ 2
  unfolding pair Picks
  pick_few =
      ⊎_elim (λ w. omega (arith, w.0)) (⊎_elim (λ w. omega (arith, w.0)) (λ w. omega (arith, w)))
      (pick_cases (protected shared x y) (permitted x y) (split x y))

  pub picked_most : picked_time (pair shared x y) ≤ most_picked
  unfolding pair Picks
  picked_most =
      ⊎_elim (λ w. rw w.0 (omega (arith, w.1, split_most)))
      (⊎_elim (λ w. rw w.0 (omega (arith, w.1, split_most))) (λ w. rw w split_most))
      (pick_cases (protected shared x y) (permitted x y) (split x y))

  -- the through time of an approach whose line 26 is one of the pair's
  through_within : (z : List ℕ) → Bounded z → (permitted x y < BLANK → line 26 z ≤ permitted x y) → through_time (pair shared x y) z ≤ most_picked
  unfolding pair through_time Picks
  through_within z bz low =
      ⊎_elim (λ w. rw w.0 (omega (arith, bz.line17)))
      (⊎_elim (λ w. rw w.0 (omega (arith, low (omega (arith, w.1, split_most)), w.1, split_most))) (λ w. rw w (omega (arith, bz.line28))))
      (pick_cases (protected shared x y) (permitted x y) (split x y))

  pub through_most : (through_time (pair shared x y) x ≤ most_picked) × (through_time (pair shared x y) y ≤ most_picked)
  unfolding permitted
  through_most =
      (through_within x bx (λ h. (permitted_parts (line 26 x) (line 26 y) h).0), through_within y by (λ h. (permitted_parts (line 26 x) (line 26 y) h).1))

  pub left_most : (z : List ℕ) → Bounded z → left_time (pair shared x y) z ≤ most_adjusted
  unfolding pair left_time Picks
  left_most z bz =
      ⊎_elim (λ w. rw w.0 bz.line16) (⊎_elim (λ w. rw w.0 (omega arith)) (λ w. rw w bz.line28))
      (pick_cases (protected shared x y) (permitted x y) (split x y))
