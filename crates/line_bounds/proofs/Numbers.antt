-- Bounds over plain numbers: of quotients, and of values that a test chooses.
use mathlib.Core.Path.{◌≡◌, refl}
use mathlib.Core.Bool.{Bool, true, false, cond}
use Prim.Native.Nat.{ℕ, ◌+◌, ◌-◌, ◌*◌, ◌/◌, ◌≤◌, ◌<◌}
use native.Mathlib.Nat.{mul_comm, div-le_of_le-mul, le-div_iff_mul-le, le-mul_of_pos_right}
use native.Mathlib.Omega.{arith}
use lib.Dec.{eqb}
use borrow.Author.Tests.{eqb-false}
use Rattle.units.specs.Rounding.{up}
use Rattle.units.proofs.Laws.{up_most}
use Rattle.procedure.specs.Lines.{part}

pub record Between (low high x : ℕ) : Type 0 where
  pub least : low ≤ x
  pub most : x ≤ high

-- a number between multiples of d has its quotient by d between the multipliers
pub quotient_between : (low high x d : ℕ) → 0 < d → Between (low * d) (high * d) x → Between low high (x / d)
quotient_between low high x d p h =
    record {
      least = (le-div_iff_mul-le {k = d} {x = low} {y = x} p).1 h.least;
      most = div-le_of_le-mul d (omega (arith, h.most, mul_comm d high));
    }

-- rounding up makes at least 1 of what is not nothing, and lets nothing grow that is shared out
pub up_least : (a b : ℕ) → 0 < a → 0 < b → 1 ≤ up a b
unfolding up
up_least a b h k = (le-div_iff_mul-le {k = b} {x = 1} {y = a + (b - 1)} k).1 (omega arith)

pub shared_out : (a n : ℕ) → 0 < n → up a n ≤ a
shared_out a n h = up_most a a n (le-mul_of_pos_right a h)

-- a choice is at most what both of its values are at most, each where it is made
pub chosen_most : (t : Bool) {x y most : ℕ} → (t ≡ true → x ≤ most) → (t ≡ false → y ≤ most) → cond t x y ≤ most
chosen_most true h k = h refl
chosen_most false h k = k refl

-- a part without volume is nothing
pub part_most : (v : ℕ) {x most : ℕ} → (0 < v → x ≤ most) → part v x ≤ most
part_most v h = chosen_most (eqb v 0) (λ none. omega arith) (λ some. h (omega (arith, eqb-false v 0 some)))
