-- The bounds of a quotient that is rounded up.
use Prim.Native.Nat.{ℕ, zero, suc, ◌+◌, ◌-◌, ◌*◌, ◌≤◌, ◌<◌}
use native.Mathlib.Nat.{div-lt_iff_lt-mul, div-zero, div-add-mod', mod-lt, suc-mul, le_of_suc-le-suc}
use native.Mathlib.Omega.{arith}
use Rattle.units.specs.Rounding.{up}

-- a quotient of at most q stays so when it is rounded up to a whole number
pub up_most : (q a b : ℕ) → a ≤ q * b → up a b ≤ q
unfolding up
up_most q a zero h = omega (arith, div-zero (a + (0 - 1)))
up_most q a (suc b) h =
    le_of_suc-le-suc
    ((div-lt_iff_lt-mul {k = suc b} {x = a + (suc b - 1)} {y = suc q} (omega arith)).1 (omega (arith, suc-mul q (suc b))))

-- and that many times the divisor covers what was divided
pub up_covers : (a b : ℕ) → 0 < b → a ≤ up a b * b
unfolding up
up_covers a b h = omega (arith, div-add-mod' (a + (b - 1)) b, mod-lt (a + (b - 1)) h)
