-- The larger and the smaller of two times, by their derived order.
use mathlib.Core.Path.{◌≡◌}
use Prim.Native.Nat.{max, min}
use native.Mathlib.Omega.{arith}
use Rattle.std.proofs.lemmas.Bool.Decides.{nat_tests}
use Rattle.std.specs.Ordering.{ord_max, ord_min}
use Rattle.units.specs.declared.Ms.{Ms}
use Rattle.units.specs.contracts.MsOrd.TheImpl.{cmp-value}

larger_time : (a b : Ms) → (ord_max cmp-value.it a b).0 ≡ max a.0 b.0
larger_time a b = grind (arith, nat_tests)

smaller_time : (a b : Ms) → (ord_min cmp-value.it a b).0 ≡ min a.0 b.0
smaller_time a b = grind (arith, nat_tests)

pub larger : (a b : Ms) {r : Ms} → r ≡ ord_max cmp-value.it a b → r.0 ≡ max a.0 b.0
larger a b e = rw e (larger_time a b)

pub smaller : (a b : Ms) {r : Ms} → r ≡ ord_min cmp-value.it a b → r.0 ≡ min a.0 b.0
smaller a b e = rw e (smaller_time a b)
