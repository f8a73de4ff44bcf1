-- Times in a text, with their unit: "4s", "4.5s", "4.125s" or "4000ms", a whole number of milliseconds; and factors, without one: "0.971",
-- a whole number of thousandths.
use Rattle.std.specs.Prelude.{ℕ, ◌+◌, ◌*◌, ◌-◌, ◌/◌, ◌%◌, min, max, Bool, cond, List, [], ◌∷◌, ◌++◌, length, get_or, take, drop, eqb, leb, ltb}
use Rattle.text.specs.Text.{digit, decimal, first_in}
use Rattle.text_numbers.specs.Numbers.{too_large, not_number, number_of}

-- a second has so many milliseconds, and one so many thousandths
abbrev pub second : ℕ
second = 1000

-- the bytes of ".", "s" and "m"
abbrev pub point : ℕ
point = 46

abbrev pub letter_s : ℕ
letter_s = 115

abbrev pub letter_m : ℕ
letter_m = 109

-- ---- read

-- the place of a word's first point; its length if it has none
abbrev pub is_point : ℕ → Bool
is_point byte = eqb byte point

abbrev pub point_in : List ℕ → ℕ
point_in word = first_in is_point word

-- the thousandths that so many digits past a point spell; there may be one, two or three
unfoldable pub scaled : ℕ → ℕ → ℕ
scaled number digits = cond (eqb digits 1) (100 * number) (cond (eqb digits 2) (10 * number) (cond (eqb digits 3) number not_number))

unfoldable pub thousandths : List ℕ → ℕ
thousandths word = cond (ltb (number_of word) too_large) (scaled (number_of word) (length word)) not_number

-- whole ones, and the thousandths past their point
unfoldable pub together : ℕ → ℕ → ℕ
together seconds part = cond (ltb (max seconds part) too_large) (min (second * seconds + part) too_large) (max seconds part)

-- the thousandths that a word spells: "4", "4.5"; with a point there are digits before and past it
unfoldable pub decimal_of : List ℕ → ℕ
decimal_of word =
    cond (ltb (point_in word) (length word))
    (together (number_of (take (point_in word) word)) (thousandths (drop (point_in word + 1) word)))
    (together (number_of word) 0)

-- the byte that stands n places before a word's end, and the word up to there
unfoldable pub from_end : List ℕ → ℕ → ℕ
from_end word n = cond (leb n (length word)) (get_or word (length word - n) 0) 0

abbrev pub without : List ℕ → ℕ → List ℕ
without word n = take (length word - n) word

-- the milliseconds that a word with its unit spells; not_number if it has none
unfoldable pub time_of : List ℕ → ℕ
time_of word =
    cond (eqb (from_end word 1) letter_s)
    (cond (eqb (from_end word 2) letter_m) (number_of (without word 2)) (decimal_of (without word 1)))
    not_number

-- ---- written

-- thousandths as digits, with no zeros at their end
unfoldable pub decimals : ℕ → List ℕ
decimals part =
    cond (eqb (part % 100) 0) (digit (part / 100) ∷ [])
    (cond (eqb (part % 10) 0) (digit (part / 100) ∷ digit (part / 10 % 10) ∷ [])
    (digit (part / 100) ∷ digit (part / 10 % 10) ∷ digit (part % 10) ∷ []))

-- nothing for none, else a point and the digits
unfoldable pub fraction_text : ℕ → List ℕ
fraction_text part = cond (eqb part 0) [] (point ∷ decimals part)

-- "4", "4.5", "0.007"
abbrev pub decimal_text : ℕ → List ℕ
decimal_text number = decimal (number / second) ++ fraction_text (number % second)

-- "4s", "4.5s", "0.007s"
unfoldable pub time_text : ℕ → List ℕ
time_text time = decimal_text time ++ (letter_s ∷ [])
