-- Phrases: words with a number past them, and the names of titles and entries.
use Rattle.std.specs.Prelude.{ℕ, ◌+◌, cond, List, [], ◌∷◌, ◌++◌, ltb}
use Rattle.text.specs.Text.{decimal}
use Rattle.text_names.specs.Names.{space, word_count, title_count, word_of, title_of, kind_of}

-- words, and a number just past them
unfoldable pub numbered : List ℕ → ℕ → List ℕ
numbered words number = words ++ decimal number

-- the name in a row of the table of words, if the table has that row
unfoldable pub name_in : ℕ → List ℕ
name_in row = cond (ltb row word_count) (word_of row) []

-- "EBL lanes"
abbrev pub entry_name : ℕ → List ℕ
entry_name entry = name_in (title_of entry) ++ (space ∷ []) ++ name_in (title_count + kind_of entry)
