-- "Little-endian u32s": numbers and their four bytes, the least byte first.
use Rattle.std.specs.Prelude.{ℕ, ◌+◌, ◌*◌, ◌/◌, ◌%◌, ◌^◌, List, [], ◌∷◌, ◌++◌, get_or}
use Rattle.lists.specs.Lists.{table}

-- "u32s": of four bytes each, and so below 2³²
abbrev pub number_bytes : ℕ
number_bytes = 4

abbrev pub number_limit : ℕ
number_limit = 2 ^ 32

abbrev pub byte_limit : ℕ
byte_limit = 256

-- the number whose four bytes stand at a place
abbrev pub number_at : List ℕ → ℕ → ℕ
number_at bytes at = get_or bytes at 0 + 256 * get_or bytes (at + 1) 0 + 65536 * get_or bytes (at + 2) 0 + 16777216 * get_or bytes (at + 3) 0

-- the four bytes of a number
unfoldable pub bytes_of : ℕ → List ℕ
bytes_of number = number % 256 ∷ number / 256 % 256 ∷ number / 65536 % 256 ∷ number / 16777216 % 256 ∷ []

-- the first n numbers that stand one after the other in the bytes
abbrev pub numbers_in : List ℕ → ℕ → List ℕ
numbers_in bytes n = table (λ i. number_at bytes (number_bytes * i)) n

-- the bytes of numbers, one number after the other
unfoldable pub packed : List ℕ → List ℕ
packed [] = []
packed (number ∷ numbers) = bytes_of number ++ packed numbers
