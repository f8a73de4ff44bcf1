-- Laws of numbers in a text: how a number goes on, and that the digits of a number are read as that number.
use Prim.Native.Nat.{ℕ, zero, suc, ◌+◌, ◌*◌, ◌-◌, ◌/◌, ◌%◌, ◌^◌, ◌<◌, ◌≤◌, min}
use mathlib.Core.Path.{◌≡◌, refl, ◌∙◌}
use mathlib.Core.Bool.{Bool, true, false}
use mathlib.Core.List.{List, [], ◌∷◌, ◌++◌}
use lib.ListN.{length, get_or, length-append, get_or-append}
use lib.Seq.{get_or-append_seam}
use lib.Dec.{ltb}
use borrow.Author.Tests.{ltb-true, ltb-false, lt-ltb, le-leb, ne_eqb}
use native.Mathlib.Nat.{pow-suc}
use native.Mathlib.Numerals.{add-one}
use native.Mathlib.Omega.{arith}
use Rattle.text.specs.Text.{digit, digit_most, decimal}
use Rattle.text.proofs.Laws.{decimal_one, decimal_more, length_more}
use Rattle.text_numbers.specs.Numbers.{too_large, next_number, number_in, digits_of, number_of}

-- a number goes on with a digit
pub digit_next : (number byte : ℕ) → digit 0 ≤ byte → byte ≤ digit 9 → number < too_large
    → next_number number byte ≡ min (10 * number + (byte - digit 0)) too_large
unfolding next_number
digit_next number byte low high small = rw (le-leb (digit 0) byte low, le-leb byte (digit 9) high, lt-ltb number too_large small)

-- one byte more of a number
pub number_more : (word : List ℕ) (n : ℕ) {number more : ℕ} → number ≡ number_in word n → more ≡ next_number number (get_or word n 0)
    → more ≡ number_in word (n + 1)
unfolding number_in
number_more word n so is = is ∙ rw (add-one n, so)

-- the digits of a number are read as that number

number_front : (front : List ℕ) (byte n : ℕ) → n ≤ length front → number_in (front ++ (byte ∷ [])) n ≡ number_in front n
unfolding number_in
number_front front byte zero h = refl
number_front front byte (suc n) h =
    rw (number_front front byte n (omega arith), get_or-append front (byte ∷ []) 0 n (omega arith))

number_last : (front : List ℕ) (byte : ℕ) → digits_of (front ++ (byte ∷ [])) ≡ next_number (digits_of front) byte
unfolding number_in
number_last front byte =
    let l : length (front ++ (byte ∷ [])) ≡ suc (length front) = length-append front (byte ∷ []) ∙ add-one (length front) in
    rw (l, number_front front byte (length front) (omega arith), get_or-append_seam front byte [] 0)

pub next_digit : (number d : ℕ) → d < 10 → 10 * number + d < too_large → next_number number (digit d) ≡ 10 * number + d
next_digit number d h fits = digit_next number (digit d) (omega arith) (omega arith) (omega arith) ∙ omega arith

module _ (number : ℕ) (fits : number < too_large) where
  one_digit : number < 10 → digits_of (decimal number) ≡ number
  unfolding number_in
  one_digit low =
      rw (decimal_one number low) (number_last [] (digit number) ∙ next_digit 0 number low (omega arith) ∙ omega arith)

  more_digits : 10 ≤ number → digits_of (decimal (number / 10)) ≡ number / 10 → digits_of (decimal number) ≡ number
  more_digits more front =
      rw (
        decimal_more number more (omega arith),
        number_last (decimal (number / 10)) (digit (number % 10)),
        front,
        next_digit (number / 10) (number % 10) (omega arith) (omega arith),
      )
      (omega arith)

number_within : (most number : ℕ) → number < 10 ^ most → number < too_large → digits_of (decimal number) ≡ number
number_within zero number h fits = one_digit number fits (omega arith)
number_within (suc most) number h fits =
    by (ltb number 10) refl (number_within most (number / 10) (omega (arith, pow-suc 10 most)) (omega arith))
  where
    by : (b : Bool) → ltb number 10 ≡ b → digits_of (decimal (number / 10)) ≡ number / 10 → digits_of (decimal number) ≡ number
    by true e front = one_digit number fits (ltb-true number 10 e)
    by false e front = more_digits number fits (ltb-false number 10 e) front

pub decimal_some : (number : ℕ) → number < too_large → 0 < length (decimal number)
decimal_some number fits = by (ltb number 10) refl
  where
    by : (b : Bool) → ltb number 10 ≡ b → 0 < length (decimal number)
    by true e = rw (decimal_one number (ltb-true number 10 e)) (omega arith)
    by false e = omega (arith, length_more number (ltb-false number 10 e) (omega arith))

pub number_read : (number : ℕ) → number < too_large → number_of (decimal number) ≡ number
unfolding number_of
number_read number fits =
    let some = decimal_some number fits in
    rw (ne_eqb (length (decimal number)) 0 (λ none. omega (arith, some, none))) (number_within digit_most number (omega arith) fits)
