-- Tests: what two of them say together, and a rule that one computed test, or two computed tables, show of every index.
use mathlib.Core.Path.{◌≡◌, refl}
use mathlib.Core.Bool.{Bool, true, false, ◌&&◌, ◌||◌}
use mathlib.Core.List.{List, [], ◌∷◌}
use Prim.Native.Nat.{ℕ, zero, suc, ◌<◌}
use native.Mathlib.Nat.{not-suc-le-zero}
use native.Mathlib.Decide.{dec_lt}
use native.Mathlib.Omega.{arith}

pub both_true : (a b : Bool) → (a && b) ≡ true → (a ≡ true) × (b ≡ true)
both_true true b e = (refl, e)
both_true false b e = absurd (let z : ◌≡◌ {A = ℕ} 0 1 = cc in omega arith)

-- of two tests that do not both hold, the second fails where the first holds
pub not_both : (a b : Bool) → (a && b) ≡ false → a ≡ true → b ≡ false
not_both true b e h = e
not_both false b e h = absurd (let z : ◌≡◌ {A = ℕ} 0 1 = cc in omega arith)

pub neither : (a b : Bool) → (a || b) ≡ false → (a ≡ false) × (b ≡ false)
neither true b e = absurd (let z : ◌≡◌ {A = ℕ} 0 1 = cc in omega arith)
neither false b e = (refl, e)

-- an index below n + 1 is below n, or is n
below_next : (P : ℕ → Type 0) (n k : ℕ) → (k < n → P k) → P n → k < suc n → P k
below_next P n k earlier last h = go (dec_lt k n)
  where
    go : Dec (k < n) → P k
    go (yes p) = earlier p
    go (no p) =
        let same : k ≡ n = omega arith in
        rw same last

-- the test holds of each index below n
abbrev pub holds_below : (ℕ → Bool) → ℕ → Bool
holds_below test zero = true
holds_below test (suc n) = holds_below test n && test n

pub at_each : (test : ℕ → Bool) (n : ℕ) → holds_below test n ≡ true → (k : ℕ) → k < n → test k ≡ true
at_each test zero e k h = absurd (not-suc-le-zero h)
at_each test (suc n) e k h =
    let two = both_true (holds_below test n) (test n) e in
    below_next (λ j. test j ≡ true) n k (λ p. at_each test n two.0 k p) two.1 h

module _ {A : Type 0} where
  -- the values of f below n, the last one first
  abbrev pub values : (ℕ → A) → ℕ → List A
  values f zero = []
  values f (suc n) = f n ∷ values f n

  pub each_below : (f g : ℕ → A) (n : ℕ) → values f n ≡ values g n → (k : ℕ) → k < n → f k ≡ g k
  each_below f g zero h k p = absurd (not-suc-le-zero p)
  each_below f g (suc n) h k p = below_next (λ j. f j ≡ g j) n k (each_below f g n (cc) k) (cc) p
