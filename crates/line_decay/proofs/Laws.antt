-- The decay number's laws: no term is larger than the one before, a term of 0 ends them all, a larger r has larger terms; the sum never
-- goes below 0 on the way, and no decay number is above 10⁹.
use mathlib.Core.Path.{◌≡◌, refl}
use mathlib.Core.Bool.{Bool, true, false, cond}
use Prim.Native.Nat.{ℕ, zero, suc, ◌+◌, ◌-◌, ◌*◌, ◌/◌, ◌%◌, ◌≤◌, ◌<◌}
use native.Mathlib.Nat.{mul-le-mul_left, mul-le-mul_right, mul-le-mul, mul_comm, zero-mul, add_assoc, le_trans}
use native.Mathlib.Nat.{zero-div, div-le_of_le-mul, div-mul-le_self, le-div_iff_mul-le}
use native.Mathlib.Numerals.{add-one, unary_clauses}
use native.Mathlib.Omega.{arith}
use lib.Dec.{leb}
use Rattle.line_decay.specs.Decay.{term, turns, faded, decay_number}

-- a part r / d of t, where d is above r, is at most t
pub part_most : (t r d : ℕ) → r ≤ d → t * r / d ≤ t
part_most t r d h = div-le_of_le-mul d (omega (arith, mul-le-mul_right t h, mul_comm t r))

-- the definitions' steps, at the code's k + 1
pub next_term : (r k : ℕ) → term r (k + 1) ≡ term r k * r / (7200 * (k + 1))
unfolding term
next_term r k = rw add-one

pub next_turn : (r j : ℕ) → turns r (j + 1) ≡ turns r j - term r (2 * j + 1) + term r (2 * j + 2)
unfolding turns
next_turn r j = rw (add-one j)

pub term_falls : (r k : ℕ) → r < 7200 → term r (k + 1) ≤ term r k
term_falls r k h = rw next_term (part_most (term r k) r (7200 * (k + 1)) (omega arith))

-- a larger r has no smaller terms
pub term_grows : {r s : ℕ} (k : ℕ) → r ≤ s → term r k ≤ term s k
unfolding term
term_grows zero h = omega arith
term_grows {r} {s} (suc k) h =
    let d = 7200 * suc k in
    let less = le_trans (div-mul-le_self (term r k * r) d) (mul-le-mul (term_grows k h) h) in
    (le-div_iff_mul-le {k = d} {x = term r k * r / d} {y = term s k * s} (omega arith)).1 less

-- no term is above the whole
pub term_most : (r k : ℕ) → r < 7200 → term r k ≤ 1_000_000_000
unfolding term
term_most r zero h = omega arith
term_most r (suc k) h = le_trans (part_most (term r k) r (7200 * suc k) (omega arith)) (term_most r k h)

-- once a term is 0 all later ones are
pub stays_zero : (r k n : ℕ) → term r k ≡ 0 → term r (k + n) ≡ 0
unfolding term
stays_zero r k zero e = simp unary_clauses e
stays_zero r k (suc n) e = simp unary_clauses (rw (stays_zero r k n e, zero-mul, zero-div))

-- the sum of terms 0 to 2j: at least the last of them, so that the next can be taken off, and at most 10⁹
pub record Summed (r j : ℕ) : Type 0 where
  pub low : term r (2 * j) ≤ turns r j
  pub next : term r (2 * j + 1) ≤ turns r j
  pub high : turns r j ≤ 1_000_000_000

from_low : (r j : ℕ) → r < 7200 → term r (2 * j) ≤ turns r j → turns r j ≤ 1_000_000_000 → Summed r j
from_low r j h l m = record { low = l; next = omega (arith, term_falls r (2 * j) h); high = m }

pub summed : (r : ℕ) → r < 7200 → (j : ℕ) → Summed r j
unfolding term turns
summed r h zero = from_low r 0 h (omega arith) (omega arith)
summed r h (suc j) =
    let s = summed r h j in
    let even : 2 * suc j ≡ 2 * j + 2 = omega arith in
    let falls : term r (2 * j + 2) ≤ term r (2 * j + 1) = rw (← add_assoc (2 * j) 1 1) (term_falls r (2 * j + 1) h) in
    from_low r (suc j) h (rw even (omega (arith, s.next, falls))) (omega (arith, s.next, s.high, falls))

-- n turns more of nothing
sum_stays : (r j n : ℕ) → term r (2 * j + 1) ≡ 0 → turns r (j + n) ≡ turns r j
sum_stays r j zero e = simp unary_clauses
sum_stays r j (suc n) e =
    let after : (i : ℕ) → term r (2 * j + 1 + i) ≡ 0 = λ i. stays_zero r (2 * j + 1) i e in
    let odd : 2 * (j + n) + 1 ≡ 2 * j + 1 + 2 * n = omega arith in
    let even : 2 * (j + n) + 2 ≡ 2 * j + 1 + (2 * n + 1) = omega arith in
    let one : j + suc n ≡ j + n + 1 = omega arith in
    rw (one, next_turn, odd, even, after, after) (omega (arith, sum_stays r j n e))

-- and the sum stays what it is
pub ends : (r j m : ℕ) → j ≤ m → term r (2 * j + 1) ≡ 0 → turns r m ≡ turns r j
ends r j m h e =
    let all : j + (m - j) ≡ m = omega arith in
    rw all at (sum_stays r j (m - j) e)

-- a stop once a turn has left the sum as it was would give the same sum, a pair of terms later: only terms of 0 leave it so
pub still_is_zero : (r j : ℕ) → r < 7200 → turns r (j + 1) ≡ turns r j → term r (2 * j + 1) ≡ 0
still_is_zero r j h e =
    let o = term r (2 * j + 1) in
    let u = term r (2 * j + 2) in
    let d = 7200 * (2 * j + 1 + 1) in
    let even : u ≡ o * r / d = rw (← add_assoc (2 * j) 1 1) (next_term r (2 * j + 1)) in
    let part : u * d ≤ o * r = rw even (div-mul-le_self (o * r) d) in
    let low : u * 14_400 ≤ u * d = mul-le-mul_left u (omega arith) in
    let high : o * r ≤ o * 7200 = mul-le-mul_left o (omega arith) in
    omega (arith, part, low, high, e, next_turn r j, (summed r h j).next)

pub faded_most : (d c : ℕ) → faded d c ≤ d
unfolding faded
faded_most d zero = omega arith
faded_most d (suc c) = omega (arith, faded_most d c)

-- K3: "p 60, CL 120, button: D is 135,335,283", at m = 2·60·120
pub k3 : decay_number 14_400 ≡ 135_335_283
unfolding term turns faded decay_number
k3 = refl

-- no decay number is above 10⁹
pub decay_most : (m : ℕ) → decay_number m ≤ 1_000_000_000
unfolding decay_number
decay_most m = go (leb 115_200 m)
  where
    go : (t : Bool) → cond t 0 (faded (turns (m % 7200) 6) (m / 7200)) ≤ 1_000_000_000
    go true = omega arith
    go false = omega (arith, faded_most (turns (m % 7200) 6) (m / 7200), (summed (m % 7200) (omega arith) 6).high)
