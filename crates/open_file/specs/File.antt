-- The file of an open study: "ICUO", the 165 owners, the 165 blocks, in little-endian u32s and no byte more.
use Rattle.std.specs.Prelude.{ℕ, ◌+◌, ◌*◌, Bool, ◌&&◌, List, [], ◌∷◌, ◌++◌, eqb, length, drop, replicate}
use Rattle.layout.specs.Open.{place_count, blocks_count}
use Rattle.study_numbers.specs.Numbers.{number_bytes, number_at, numbers_in, packed}

-- the four bytes "ICUO", as many as a number has
abbrev pub opens : List ℕ
opens = 73 ∷ 67 ∷ 85 ∷ 79 ∷ []

-- then the owners, and past them the blocks
abbrev pub owners_place : ℕ
owners_place = number_bytes

abbrev pub blocks_place : ℕ
blocks_place = owners_place + number_bytes * place_count

-- "no byte more": 62,044
abbrev pub open_bytes : ℕ
open_bytes = blocks_place + number_bytes * blocks_count

-- any bytes: so many, and the first four of them are the opening's, four bytes taken for a number
unfoldable pub is_open : List ℕ → Bool
is_open file = eqb (length file) open_bytes && eqb (number_at file 0) (number_at opens 0)

-- what is read of a file
unfoldable pub owners_in : List ℕ → List ℕ
owners_in file = numbers_in (drop owners_place file) place_count

unfoldable pub blocks_in : List ℕ → List ℕ
blocks_in file = numbers_in (drop blocks_place file) blocks_count

-- what is written
unfoldable pub open_file : List ℕ → List ℕ → List ℕ
open_file owners blocks = opens ++ packed owners ++ packed blocks

-- "0 = free": the file of an open study in which every place is free
unfoldable pub empty_file : List ℕ
empty_file = open_file (replicate place_count 0) (replicate blocks_count 0)
