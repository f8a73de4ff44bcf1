-- Words that are times, words that are none, and times as words.
use Prim.Native.Nat.{ℕ}
use Prim.Native.String.{String}
use mathlib.Core.Path.{◌≡◌, refl}
use mathlib.Core.List.{List, [], ◌∷◌}
use lib.ListN.{replicate}
use Rattle.text.specs.Text.{ascii, digits, decimal, first_in}
use Rattle.text_numbers.specs.Numbers.{too_large, not_number, next_number, number_in, number_of}
use Rattle.text_times.specs.Times.{scaled, thousandths, together, decimal_of, from_end, time_of, decimals, fraction_text, decimal_text, time_text}

times : List String → List ℕ
times [] = []
times (word ∷ rest) = time_of (ascii word) ∷ times rest

read :
    times ("4s" ∷ "4.5s" ∷ "4.125s" ∷ "4000ms" ∷ "0.007s" ∷ "04.50s" ∷ "4294967.295s" ∷ [])
    ≡ 4000 ∷ 4500 ∷ 4125 ∷ 4000 ∷ 7 ∷ 4500 ∷ 4294967295 ∷ []
unfolding times ascii next_number number_in number_of first_in scaled thousandths together decimal_of from_end time_of
read = refl

none :
    times ("4" ∷ "4.s" ∷ ".5s" ∷ "4.5ms" ∷ "4.1234s" ∷ "4.5.5s" ∷ "s" ∷ "ms" ∷ "-4s" ∷ [])
    ≡ replicate 9 not_number
unfolding times ascii next_number number_in number_of first_in scaled thousandths together decimal_of from_end time_of
none = refl

large : times ("4294968s" ∷ "4294967.296s" ∷ "4294967296ms" ∷ "99999999999.5s" ∷ []) ≡ replicate 4 too_large
unfolding times ascii next_number number_in number_of first_in scaled thousandths together decimal_of from_end time_of
large = refl

texts : List ℕ → List (List ℕ)
texts [] = []
texts (time ∷ rest) = time_text time ∷ texts rest

written :
    texts (4000 ∷ 4500 ∷ 4125 ∷ 7 ∷ 20 ∷ 0 ∷ [])
    ≡ ascii "4s" ∷ ascii "4.5s" ∷ ascii "4.125s" ∷ ascii "0.007s" ∷ ascii "0.02s" ∷ ascii "0s" ∷ []
unfolding texts ascii digits decimal decimals fraction_text time_text
written = refl

-- and factors, which have no unit
factors : List String → List ℕ
factors [] = []
factors (word ∷ rest) = decimal_of (ascii word) ∷ factors rest

factors_read :
    factors ("0.971" ∷ "0.95" ∷ "1" ∷ "1.000" ∷ "0" ∷ "971" ∷ "0.9715" ∷ ".971" ∷ "1." ∷ "1s" ∷ [])
    ≡ 971 ∷ 950 ∷ 1000 ∷ 1000 ∷ 0 ∷ 971000 ∷ not_number ∷ not_number ∷ not_number ∷ not_number ∷ []
unfolding factors ascii next_number number_in number_of first_in scaled thousandths together decimal_of
factors_read = refl

factors_written : decimal_text 971 ∷ decimal_text 950 ∷ decimal_text 1000 ∷ decimal_text 0 ∷ [] ≡ ascii "0.971" ∷ ascii "0.95" ∷ ascii "1" ∷ ascii "0" ∷ []
unfolding ascii digits decimal decimals fraction_text
factors_written = refl
