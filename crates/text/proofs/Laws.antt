-- Laws of decimal text, of text that is put piece after piece, and of a search in it.
use Prim.Native.Nat.{ℕ, zero, suc, ◌+◌, ◌*◌, ◌-◌, ◌/◌, ◌%◌, ◌^◌, ◌≤◌, ◌<◌}
use mathlib.Core.Path.{◌≡◌, refl, sym, ◌∙◌}
use mathlib.Core.Logic.{◌⊎◌, inl, inr, ⊎_elim}
use mathlib.Core.Bool.{Bool, true, false}
use mathlib.Core.List.{List, [], ◌∷◌, ◌++◌}
use lib.ListN.{length, get_or, drop, set, length-append}
use lib.Seq.{drop-cons, drop-length}
use lib.Dec.{ltb}
use borrow.Author.Tests.{ltb-true, ltb-false, lt-ltb, le-ltb}
use native.Mathlib.Nat.{pow-suc}
use native.Mathlib.Numerals.{add-one}
use native.Mathlib.Omega.{arith}
use Rattle.lists.proofs.Laws.{store_over, over_none, over_next}
use Rattle.text.specs.Text.{digit, digits, digit_most, decimal, number_then, first_in, Placed}
use Rattle.text.specs.Working.{spelled}

-- a number of one digit, and one of more

one_or_more : (number : ℕ) → (number < 10) ⊎ (10 ≤ number)
one_or_more number = by (ltb number 10) refl
  where
    by : (b : Bool) → ltb number 10 ≡ b → (number < 10) ⊎ (10 ≤ number)
    by true e = inl (ltb-true number 10 e)
    by false e = inr (ltb-false number 10 e)

module _ (most number : ℕ) where
  digits_one : number < 10 → digits (suc most) number ≡ digit number ∷ []
  unfolding digits
  digits_one h = simp (lt-ltb number 10 h)

  digits_more : 10 ≤ number → digits (suc most) number ≡ digits most (number / 10) ++ (digit (number % 10) ∷ [])
  unfolding digits
  digits_more h = simp (le-ltb number 10 h)

  fewer : number < 10 ^ suc most → number / 10 < 10 ^ most
  fewer h = omega (arith, pow-suc 10 most)

-- room for more digits than a number has changes nothing
digits_enough : (most number : ℕ) → number < 10 ^ suc most → digits (suc (suc most)) number ≡ digits (suc most) number
digits_enough zero number h = digits_one 1 number (omega arith) ∙ sym (digits_one 0 number (omega arith))
digits_enough (suc most) number h =
    ⊎_elim (λ one. digits_one (suc (suc most)) number one ∙ sym (digits_one (suc most) number one))
    (λ more.
    digits_more (suc (suc most)) number more
    ∙ rw (digits_enough most (number / 10) (fewer (suc most) number h)) (sym (digits_more (suc most) number more))
    )
    (one_or_more number)

pub decimal_one : (number : ℕ) → number < 10 → decimal number ≡ digit number ∷ []
unfolding decimal
decimal_one number h = digits_one 9 number h

-- the digits before the last are those of the tenth part
pub decimal_more : (number : ℕ) → 10 ≤ number → number < 10 ^ digit_most → decimal number ≡ decimal (number / 10) ++ (digit (number % 10) ∷ [])
unfolding decimal
decimal_more number h fits = digits_more 9 number h ∙ rw (digits_enough 8 (number / 10) (fewer 9 number fits))

-- how many digits there are

length_digits : (most number : ℕ) → length (digits most number) ≤ most
unfolding digits
length_digits zero number = omega arith
length_digits (suc most) number =
    ⊎_elim (λ one. rw (digits_one most number one) (omega arith))
    (λ more. rw (digits_more most number more, length-append) (omega (arith, length_digits most (number / 10))))
    (one_or_more number)

pub length-decimal : (number : ℕ) → length (decimal number) ≤ digit_most
unfolding decimal
length-decimal number = length_digits digit_most number

pub length_then : (number byte : ℕ) → length (number_then number byte) ≡ length (decimal number) + 1
unfolding number_then
length_then number byte = length-append (decimal number) (byte ∷ [])

pub length-number_then : (number byte : ℕ) → length (number_then number byte) ≤ digit_most + 1
length-number_then number byte = omega (arith, length_then number byte, length-decimal number)

-- the digits spell the number

spelled_last : (before : ℕ) (bytes : List ℕ) (byte : ℕ) → spelled before (bytes ++ (byte ∷ [])) ≡ 10 * spelled before bytes + (byte - 48)
unfolding spelled
spelled_last before [] byte = refl
spelled_last before (first ∷ bytes) byte = spelled_last (10 * before + (first - 48)) bytes byte

spelled-digits : (most number : ℕ) → number < 10 ^ most → spelled 0 (digits most number) ≡ number
unfolding digits spelled
spelled-digits zero number h = omega arith
spelled-digits (suc most) number h =
    ⊎_elim (λ one. rw (digits_one most number one) (omega arith))
    (λ more.
    rw (
      digits_more most number more,
      spelled_last 0 (digits most (number / 10)) (digit (number % 10)),
      spelled-digits most (number / 10) (fewer most number h),
    )
    (omega arith)
    )
    (one_or_more number)

pub decimal_spells : (number : ℕ) → number < 10 ^ digit_most → spelled 0 (decimal number) ≡ number
unfolding decimal
decimal_spells number h = spelled-digits digit_most number h

-- each byte is a digit

abbrev AreDigits : List ℕ → Type 0
AreDigits bytes = (i : ℕ) → i < length bytes → (48 ≤ get_or bytes i 0) × (get_or bytes i 0 < 58)

digits_last : (bytes : List ℕ) (byte : ℕ) → AreDigits bytes → 48 ≤ byte → byte < 58 → AreDigits (bytes ++ (byte ∷ []))
digits_last [] byte are low high zero h = (low, high)
digits_last [] byte are low high (suc i) h = absurd (omega arith)
digits_last (first ∷ bytes) byte are low high zero h = are zero (omega arith)
digits_last (first ∷ bytes) byte are low high (suc i) h = digits_last bytes byte (λ j l. are (suc j) (omega arith)) low high i (omega arith)

are_digits : (most number : ℕ) → AreDigits (digits most number)
unfolding digits
are_digits zero number = λ i h. absurd (omega arith)
are_digits (suc most) number =
    ⊎_elim (λ one. rw (digits_one most number one) (digits_last [] (digit number) (λ i h. absurd (omega arith)) (omega arith) (omega arith)))
    (λ more.
    rw (digits_more most number more)
    (digits_last (digits most (number / 10)) (digit (number % 10)) (are_digits most (number / 10)) (omega arith) (omega arith))
    )
    (one_or_more number)

pub decimal_digits : (number : ℕ) → AreDigits (decimal number)
unfolding decimal
decimal_digits number = are_digits digit_most number

-- and no zero stands in front

first_of : (front back : List ℕ) → 48 < get_or front 0 0 → 48 < get_or (front ++ back) 0 0
first_of [] back h = absurd (omega arith)
first_of (first ∷ front) back h = h

front_digit : (most number : ℕ) → 0 < number → number < 10 ^ most → 48 < get_or (digits most number) 0 0
front_digit zero number h fits = absurd (omega arith)
front_digit (suc most) number h fits =
    ⊎_elim (λ one. rw (digits_one most number one) (omega arith))
    (λ more.
    let front = front_digit most (number / 10) (omega arith) (fewer most number fits) in
    rw (digits_more most number more) (first_of (digits most (number / 10)) _ front))
    (one_or_more number)

pub decimal_front : (number : ℕ) → 0 < number → number < 10 ^ digit_most → 48 < get_or (decimal number) 0 0
unfolding decimal
decimal_front number h fits = front_digit digit_most number h fits

-- text put at a place

pub placed_one : (list : List ℕ) (at byte : ℕ) → at < length list → Placed list at (byte ∷ []) (set list at byte) (at + 1)
placed_one list at byte h = record { is = store_over list at byte h; next = refl }

-- a piece just past another is one piece with it
pub placed_next : {list one two first second : List ℕ} {at n m : ℕ} → Placed list at first one n → Placed one n second two m
    → at + length first + length second ≤ length list
    → Placed list at (first ++ second) two m
placed_next {list} {one} {two} {first} {second} {at} p q h =
    record {
      is = q.is ∙ rw (p.is, p.next) (over_next list at (length first) first second refl h);
      next = omega (arith, p.next, q.next, length-append first second);
    }

-- nothing, put at any place, changes nothing
pub placed_nothing : (list : List ℕ) (at : ℕ) → Placed list at [] list at
placed_nothing list at = record { is = over_none list at; next = omega arith }

-- a piece just past another, where the last of them is known to fit
pub placed_after : {list one two first second : List ℕ} {at n m : ℕ} → Placed list at first one n → Placed one n second two m
    → m ≤ length list
    → Placed list at (first ++ second) two m
placed_after p q fits = placed_next p q (omega (arith, p.next, q.next))

pub placed_three : {list one two three first second third : List ℕ} {at n m k : ℕ}
    → Placed list at first one n → Placed one n second two m → Placed two m third three k
    → k ≤ length list
    → Placed list at (first ++ second ++ third) three k
placed_three p q r fits = placed_after (placed_after p q (omega (arith, r.next))) r fits

-- a number of one digit and one of more, put

pub placed_digit : {list after : List ℕ} {at past number : ℕ} → number < 10 → Placed list at (digit number ∷ []) after past
    → Placed list at (decimal number) after past
placed_digit {number = number} h p = rw (decimal_one number h) p

-- the bytes of a number's last digit and of those before it
pub length_more : (number : ℕ) → 10 ≤ number → number < 10 ^ digit_most → length (decimal number) ≡ length (decimal (number / 10)) + 1
length_more number h fits = rw (decimal_more number h fits) (length-append (decimal (number / 10)) _)

pub placed_digits : {list one two : List ℕ} {at n m number : ℕ} → 10 ≤ number → number < 10 ^ digit_most
    → at + length (decimal number) ≤ length list
    → Placed list at (decimal (number / 10)) one n → Placed one n (digit (number % 10) ∷ []) two m
    → Placed list at (decimal number) two m
placed_digits {number = number} h fits room p q =
    rw (decimal_more number h fits) (placed_next p q (omega (arith, length_more number h fits)))

-- a number and the byte past it

pub placed_then : {list one two : List ℕ} {at n m : ℕ} (number byte : ℕ) → at + length (number_then number byte) ≤ length list
    → Placed list at (decimal number) one n → Placed one n (byte ∷ []) two m
    → Placed list at (number_then number byte) two m
unfolding number_then
placed_then number byte room p q = placed_next p q (omega (arith, length-append (decimal number) (byte ∷ [])))

-- any number and a byte fit where there is room for the most digits, and end there

pub number_fits : (at room number byte : ℕ) → at + (digit_most + 1) ≤ room → at + length (number_then number byte) ≤ room
number_fits at room number byte h = omega (arith, length-number_then number byte)

pub number_past : {list one : List ℕ} {at n : ℕ} (number byte : ℕ) → Placed list at (number_then number byte) one n → n ≤ at + (digit_most + 1)
number_past number byte p = omega (arith, p.next, length-number_then number byte)

-- the search for the first byte for which a test holds

-- what is left to search past the first bytes, where it holds for none of these
abbrev pub Searched : (ℕ → Bool) → List ℕ → ℕ → Type 0
Searched test bytes at = first_in test bytes ≡ at + first_in test (drop at bytes)

module _ (test : ℕ → Bool) where
  module _ (bytes : List ℕ) (at : ℕ) (so : Searched test bytes at) where
    pub first_here : at < length bytes → test (get_or bytes at 0) ≡ true → at ≡ first_in test bytes
    unfolding first_in
    first_here h is =
        let left = rw (drop-cons bytes at 0 h, is) at so in
        omega (arith, left)

    pub first_past : at < length bytes → test (get_or bytes at 0) ≡ false → Searched test bytes (at + 1)
    unfolding first_in
    first_past h is =
        let left = rw (drop-cons bytes at 0 h, is) at so in
        rw (add-one at) (omega (arith, left))

    pub first_none : at ≡ length bytes → at ≡ first_in test bytes
    unfolding first_in
    first_none end =
        let left = rw (end, drop-length bytes) at so in
        omega (arith, left)

  -- it is found past a front for whose bytes the test does not hold
  pub first_after : (front rest : List ℕ) → ((i : ℕ) → i < length front → test (get_or front i 0) ≡ false)
      → first_in test (front ++ rest) ≡ length front + first_in test rest
  unfolding first_in
  first_after [] rest none = omega arith
  first_after (byte ∷ front) rest none =
      rw (none zero (omega arith), first_after front rest (λ i h. none (suc i) (omega arith))) (omega arith)
