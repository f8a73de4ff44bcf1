-- How changes are lent: one list of numbers, an entry, its new value, the next entry and so on.
use Rattle.std.specs.Prelude.{List, [], ◌∷◌, ℕ}
use Rattle.amend_sets.specs.Amend.{Change}

unfoldable pub changes_of : List ℕ → List Change
changes_of [] = []
changes_of (i ∷ []) = []
changes_of (i ∷ v ∷ rest) = record { entry = i; value = v } ∷ changes_of rest
