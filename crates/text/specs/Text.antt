-- Numbers as text, in ASCII, and text that is put at a place of a list of bytes.
use Rattle.std.specs.Prelude.{ℕ, zero, suc, ◌+◌, ◌/◌, ◌%◌, ◌≡◌, Bool, cond, List, [], ◌∷◌, ◌++◌, length, ltb}
use Prim.Native.Char.{code}
use Prim.Native.String.{String, [] as none, ◌∷◌ as ◌then◌}
use Rattle.lists.specs.Lists.{over}

-- the bytes of a text
unfoldable pub ascii : String → List ℕ
ascii none = []
ascii (c then s) = code c ∷ ascii s

-- the bytes of texts, one after the other
unfoldable pub joined : List String → List ℕ
joined [] = []
joined (s ∷ rest) = ascii s ++ joined rest

-- the byte of a digit
abbrev pub digit : ℕ → ℕ
digit d = 48 + d

-- the digits of a number that has at most so many, with no zeros in front
unfoldable pub digits : ℕ → ℕ → List ℕ
digits zero number = []
digits (suc most) number = cond (ltb number 10) (digit number ∷ []) (digits most (number / 10) ++ (digit (number % 10) ∷ []))

-- a u32 has at most ten
abbrev pub digit_most : ℕ
digit_most = 10

-- "Numbers are decimal"
unfoldable pub decimal : ℕ → List ℕ
decimal number = digits digit_most number

-- a number, and the byte that parts it from what follows
unfoldable pub number_then : ℕ → ℕ → List ℕ
number_then number byte = decimal number ++ (byte ∷ [])

-- the place of the first byte for which a test holds; the length of the list if there is none
unfoldable pub first_in : (ℕ → Bool) → List ℕ → ℕ
first_in test [] = 0
first_in test (byte ∷ bytes) = cond (test byte) 0 (suc (first_in test bytes))

-- a part put at a place, and the place past it
pub record Placed (before : List ℕ) (at : ℕ) (part after : List ℕ) (past : ℕ) : Type 0 where
  pub is : after ≡ over before at part
  pub next : past ≡ at + length part
