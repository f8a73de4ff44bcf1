-- What a closure that changes nothing makes of the storages' places.
use mathlib.Core.Path.{◌≡◌, refl, ◌∙◌}
use mathlib.Core.List.{List}
use Prim.Native.Nat.{ℕ, zero, suc, ◌+◌, ◌≤◌, ◌<◌}
use native.Mathlib.Decide.{dec_lt}
use native.Mathlib.Omega.{arith}
use lib.ListN.{get_or}
use denote.Param.Members.{Mut}
use Rattle.std.specs.Fn.{Called}
use Rattle.std.specs.Array.{IsFromFnResultFrom, IsFromFnResult}
use Rattle.std.proofs.lemmas.List.FromFn.{fill_by_all}
use Rattle.lists.specs.Lists.{table}
use Rattle.layout.specs.Diamond.{storage_count}

module _ {F : Type 0} (g : Mut F (ℕ × Unit {0}) ℕ) (f : F) (ys : List ℕ) (h : ℕ → ℕ) where
  abbrev pub IsCall : Type 0
  IsCall = (k y : ℕ) (q : F) → Called g f (k, tt) y q → (q ≡ f) × (y ≡ h k)

  each_made : IsCall → (n i : ℕ) (p : F) → p ≡ f → IsFromFnResultFrom g p ys i n → (k : ℕ) → i ≤ k → k < i + n → get_or ys k 0 ≡ h k
  each_made call zero i p e r k low high = absurd (omega arith)
  each_made call (suc n) i p e r k low high =
      by (dec_lt i k) (λ later. each_made call n (i + 1) r.0 (call i r.1 r.0 (rw e at r.3)).0 r.4 k (omega arith) (omega arith))
    where
      by : Dec (i < k) → (i < k → get_or ys k 0 ≡ h k) → get_or ys k 0 ≡ h k
      by (yes later) next = next later
      by (no here) next =
          let same : k ≡ i = omega arith in
          rw same (r.2.1 0 ∙ (call i r.1 r.0 (rw e at r.3)).1)

  pub made : IsFromFnResult g f ys storage_count → IsCall → ys ≡ table h storage_count
  unfolding table
  made r call = fill_by_all h ys storage_count 0 r.long (λ k l. each_made call storage_count 0 f refl r.each k (omega arith) (omega arith))
