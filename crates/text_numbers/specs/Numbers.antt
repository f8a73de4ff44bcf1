-- Numbers in a text: what a word of digits spells.
use Rattle.std.specs.Prelude.{ℕ, zero, suc, ◌+◌, ◌*◌, ◌-◌, ◌^◌, min, Bool, cond, ◌&&◌, List, length, get_or, eqb, leb, ltb}
use Rattle.text.specs.Text.{digit}

-- no value reaches it, since a value has 32 bits: what digits spell that make a larger number
abbrev pub too_large : ℕ
too_large = 2 ^ 32

-- what a word spells that is no number
abbrev pub not_number : ℕ
not_number = too_large + 1

abbrev pub is_digit : ℕ → Bool
is_digit byte = leb (digit 0) byte && leb byte (digit 9)

-- a number goes on with a digit; with anything else it is none
unfoldable pub next_number : ℕ → ℕ → ℕ
next_number number byte =
    cond (is_digit byte) (cond (ltb number too_large) (min (10 * number + (byte - digit 0)) too_large) number) not_number

-- the number that the first n bytes of a word spell
unfoldable pub number_in : List ℕ → ℕ → ℕ
number_in word zero = 0
number_in word (suc n) = next_number (number_in word n) (get_or word n 0)

abbrev pub digits_of : List ℕ → ℕ
digits_of word = number_in word (length word)

-- a word of no bytes spells none
unfoldable pub number_of : List ℕ → ℕ
number_of word = cond (eqb (length word) 0) not_number (digits_of word)
