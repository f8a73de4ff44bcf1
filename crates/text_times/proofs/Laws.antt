-- Laws of seconds with their thousandths, of the bytes at a word's end, and of the length of a time.
use Prim.Native.Nat.{ℕ, ◌+◌, ◌*◌, ◌-◌, ◌/◌, ◌%◌, ◌<◌, ◌≤◌, min, max}
use mathlib.Core.Path.{◌≡◌, refl}
use mathlib.Core.Bool.{Bool, true, false, cond}
use mathlib.Core.List.{List, [], ◌∷◌}
use lib.ListN.{length, get_or, take, drop, length-append}
use lib.Dec.{eqb, leb}
use borrow.Author.Tests.{leb-true, lt-ltb, le-ltb}
use native.Mathlib.Omega.{arith}
use Rattle.text_times.specs.Times.{second, point, letter_s, point_in, thousandths, together, decimal_of, from_end}
use Rattle.text_times.specs.Times.{decimals, fraction_text, decimal_text, time_text}
use Rattle.text_times.specs.Working.{fraction_most, decimal_most, time_most}
use Rattle.text.specs.Text.{digit, decimal}
use Rattle.text.proofs.Laws.{length-decimal}
use Rattle.text_numbers.specs.Numbers.{too_large, number_of}

-- one of them is too much already, or none is

module _ (seconds part : ℕ) where
  pub together_large : too_large ≤ max seconds part → together seconds part ≡ max seconds part
  unfolding together
  together_large h = rw (le-ltb (max seconds part) too_large h)

  pub together_small : max seconds part < too_large → together seconds part ≡ min (second * seconds + part) too_large
  unfolding together
  together_small h = rw (lt-ltb (max seconds part) too_large h)

-- seconds without a point, and with one

module _ (word : List ℕ) (at : ℕ) (is : at ≡ point_in word) where
  pub decimal_whole : at ≡ length word → decimal_of word ≡ together (number_of word) 0
  unfolding decimal_of
  decimal_whole end = rw (← is, le-ltb at (length word) (omega arith))

  pub decimal_parted : at < length word → decimal_of word ≡ together (number_of (take at word)) (thousandths (drop (at + 1) word))
  unfolding decimal_of
  decimal_parted h = rw (← is, lt-ltb at (length word) h)

-- a byte that stands so far before a word's end
pub from_end_some : (word : List ℕ) (n byte : ℕ) → from_end word n ≡ byte → 0 < byte → n ≤ length word
unfolding from_end
from_end_some word n byte is some = by (leb n (length word)) refl is
  where
    by : (b : Bool) → leb n (length word) ≡ b → cond b (get_or word (length word - n) 0) 0 ≡ byte → n ≤ length word
    by true e is = leb-true n (length word) e
    by false e is = absurd (omega arith)

-- how long a time is: one, two or three digits of thousandths stand past its point

module _ (part : ℕ) where
  abbrev pub tenth : ℕ
  tenth = part / 100

  abbrev pub hundredth : ℕ
  hundredth = part / 10 % 10

  abbrev pub thousandth : ℕ
  thousandth = part % 10

  abbrev pub as_digits : Bool → Bool → List ℕ
  as_digits p q = cond p (digit tenth ∷ []) (cond q (digit tenth ∷ digit hundredth ∷ []) (digit tenth ∷ digit hundredth ∷ digit thousandth ∷ []))

length-decimals : (part : ℕ) → length (decimals part) ≤ 3
unfolding decimals
length-decimals part = by (eqb (part % 100) 0) (eqb (part % 10) 0)
  where
    by : (p q : Bool) → length (as_digits part p q) ≤ 3
    by true q = omega arith
    by false true = omega arith
    by false false = omega arith

length_fraction : (part : ℕ) → length (fraction_text part) ≤ fraction_most
unfolding fraction_text
length_fraction part = by (eqb part 0)
  where
    by : (b : Bool) → length (cond b [] (point ∷ decimals part)) ≤ fraction_most
    by true = omega arith
    by false = omega (arith, length-decimals part)

pub length-decimal_text : (number : ℕ) → length (decimal_text number) ≤ decimal_most
length-decimal_text number =
    omega (
      arith,
      length-append (decimal (number / second)) (fraction_text (number % second)),
      length-decimal (number / second),
      length_fraction (number % second),
    )

pub length_time : (time : ℕ) → length (time_text time) ≤ time_most
unfolding time_text
length_time time = omega (arith, length-append (decimal_text time) (letter_s ∷ []), length-decimal_text time)
