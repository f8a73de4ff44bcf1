-- Lists of numbers: tables, and a part put over a list.
use Rattle.std.specs.Prelude.{ℕ, zero, suc, ◌+◌, ◌<◌, List, [], ◌∷◌, ◌++◌, length, get_or, take, drop}

-- each number of a list is below a limit: 256 for bytes, 2³² for u32s
abbrev pub AllBelow : ℕ → List ℕ → Type 0
AllBelow limit list = (i : ℕ) → get_or list i 0 < limit

-- f 0, f 1, .. f (n - 1)
unfoldable pub table : (ℕ → ℕ) → ℕ → List ℕ
table f zero = []
table f (suc n) = table f n ++ (f n ∷ [])

-- a list with a part over what stood at a place
unfoldable pub over : List ℕ → ℕ → List ℕ → List ℕ
over list at part = take at list ++ part ++ drop (at + length part) list
