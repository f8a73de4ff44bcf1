-- What a number in a kind's range is worth to those who lean on it.
use mathlib.Core.Path.{◌≡◌, refl}
use mathlib.Core.Bool.{Bool, true, false, ◌&&◌, ◌||◌}
use Prim.Native.Nat.{ℕ}
use native.Mathlib.Omega.{arith}
use lib.Dec.{eqb, leb}
use borrow.Author.Tests.{eqb-true, leb-true}
use Rattle.kinds.specs.declared.Kind.{Kind}
use Rattle.kinds.specs.Kinds.{Within, limits_of, in_range}

pub within : (k : Kind) (x : ℕ) → in_range k x ≡ true → Within k x
within k x h = go (eqb x (limits_of k).usual) (leb (limits_of k).least x) refl refl h
  where
    go :
        (t u : Bool) → eqb x (limits_of k).usual ≡ t → leb (limits_of k).least x ≡ u → (t || (u && leb x (limits_of k).most)) ≡ true
        → Within k x
    go true u e p q =
        let usual = eqb-true x (limits_of k).usual e in
        record { least = omega (arith, usual); most = omega (arith, usual); apart = λ other. absurd (other usual) }
    go false true e p q =
        let low = leb-true (limits_of k).least x p in
        let high = leb-true x (limits_of k).most q in
        record { least = omega (arith, low); most = omega (arith, high); apart = λ other. low }
    go false false e p q = absurd (let z : ◌≡◌ {A = ℕ} 0 1 = cc in omega arith)
