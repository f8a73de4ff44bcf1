-- The two approaches of a street.
use mathlib.Core.Path.{◌≡◌, refl}
use mathlib.Core.Bool.{Bool, true, false, cond}
use mathlib.Core.Logic.{◌⊎◌, inl, inr, ⊎_elim}
use Prim.Native.Nat.{ℕ, ◌+◌, ◌-◌, ◌*◌, ◌/◌, ◌%◌, ◌<◌}
use native.Mathlib.Omega.{arith}
use lib.Dec.{eqb}
use borrow.Author.Tests.{eqb-true, eqb-false}
use Rattle.layout.specs.Entries.{approach_count}
use Rattle.sheet_cells.specs.Cells.{opposite}

-- which approach is opposite, as arithmetic
opposite_cases : (a : ℕ) → ((a % 2 ≡ 0) × (opposite a ≡ a + 1)) ⊎ ((a % 2 ≡ 1) × (opposite a ≡ a - 1))
unfolding opposite
opposite_cases a = go (eqb (a % 2) 0) refl
  where
    at : ℕ → Type 0
    at o = ((a % 2 ≡ 0) × (o ≡ a + 1)) ⊎ ((a % 2 ≡ 1) × (o ≡ a - 1))

    go : (t : Bool) → eqb (a % 2) 0 ≡ t → at (cond t (a + 1) (a - 1))
    go true h = inl (eqb-true _ _ h, refl)
    go false h = let odd : a % 2 ≡ 0 → ⊥ = eqb-false _ _ h in inr (omega arith, refl)

pub record Street (a : ℕ) : Type 0 where
  pub few : opposite a < approach_count
  pub other : opposite a ≡ a → ⊥
  pub back : opposite (opposite a) ≡ a
  pub same_pair : opposite a / 2 ≡ a / 2

pub street : (a : ℕ) → a < approach_count → Street a
street a h =
    ⊎_elim (λ p. ⊎_elim (λ q. omega arith) (λ q. omega arith) (opposite_cases (opposite a)))
    (λ p. ⊎_elim (λ q. omega arith) (λ q. omega arith) (opposite_cases (opposite a))) (opposite_cases a)

-- those of pair q
pub opposite_pair : (q : ℕ) → (opposite (2 * q) ≡ 2 * q + 1) × (opposite (2 * q + 1) ≡ 2 * q)
opposite_pair q = (
  ⊎_elim (λ p. omega arith) (λ p. omega arith) (opposite_cases (2 * q)),
  ⊎_elim (λ p. omega arith) (λ p. omega arith) (opposite_cases (2 * q + 1)),
)
