-- What a call leaves that makes a list or says why not: no public promise says it.
use Rattle.std.specs.Prelude.{ℕ, ◌≡◌, List, Result, ⊤}
use Rattle.program_outcome.specs.Outcome.{Tells}

-- a text is said, or the list is the one that was to be made
abbrev pub Made : (text said said' made list' : List ℕ) → Result ⊤ ℕ → Type 0
Made text said said' made list' result = Tells text said said' (λ _. list' ≡ made) result
