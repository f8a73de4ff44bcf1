-- Where the terms end: the least r whose term is not 0. One test, computed over the whole table, shows it of every r and every term.
use mathlib.Core.Path.{◌≡◌, refl, ◌∙◌, sym}
use mathlib.Core.Bool.{Bool, true, ◌&&◌}
use mathlib.Core.List.{List}
use Prim.Native.Nat.{ℕ, ◌+◌, ◌-◌, ◌*◌, ◌<◌, ◌≤◌}
use native.Mathlib.Decide.{dec_lt}
use native.Mathlib.Omega.{arith}
use lib.ListN.{get_or}
use lib.Dec.{eqb, ltb}
use borrow.Author.Tests.{eqb-true, ltb-true, lt-ltb, le-ltb, eq-eqb, ne_eqb}
use Rattle.lists.proofs.Tests.{holds_below, both_true, at_each}
use Rattle.line_decay.proofs.Laws.{term_grows}
use Rattle.line_decay.specs.Decay.{term}
use Rattle.line_decay.specs.declared.TheConstants.{FIRST}

-- the numbers of the code's table
abbrev pub first : List ℕ
first = FIRST

-- term 2j + 1 is 0 just below the table's number, and not 0 at it
test : ℕ → Bool
test j = eqb (term (get_or first j 0 - 1) (2 * j + 1)) 0 && ltb 0 (term (get_or first j 0) (2 * j + 1))

whole : holds_below test 6 ≡ true
unfolding test term
whole = refl

-- so it is 0 for every r below that number, and for no other
pub rule : (r j : ℕ) → j < 6 → ltb r (get_or first j 0) ≡ eqb (term r (2 * j + 1)) 0
unfolding test
rule r j h =
    let f = get_or first j 0 in
    let two = both_true (eqb (term (f - 1) (2 * j + 1)) 0) (ltb 0 (term f (2 * j + 1))) (at_each test 6 whole j h) in
    go f (2 * j + 1) (eqb-true _ _ two.0) (ltb-true _ _ two.1) (dec_lt r f)
  where
    go : (f k : ℕ) → term (f - 1) k ≡ 0 → 0 < term f k → Dec (r < f) → ltb r f ≡ eqb (term r k) 0
    go f k none some (yes p) =
        let below : term r k ≡ 0 = omega (arith, term_grows {r = r} {s = f - 1} k (omega arith)) in
        lt-ltb r f p ∙ sym (eq-eqb _ _ below)
    go f k none some (no p) =
        let least : f ≤ r = omega arith in
        le-ltb r f least ∙ sym (ne_eqb (term r k) 0 (λ zero. omega (arith, term_grows {r = f} {s = r} k least)))
