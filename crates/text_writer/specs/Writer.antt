-- A junction's entries as text: a line for each title, with its entries' names and values.
use Rattle.std.specs.Prelude.{ℕ, zero, suc, ◌+◌, cond, List, [], ◌∷◌, ◌++◌, get_or}
use Rattle.layout.specs.Entries.{entry_count}
use Rattle.kinds.specs.Kinds.{kind_at}
use Rattle.text_values.specs.Values.{value_text}
use Rattle.text_names.specs.Names.{space, line_feed, title_count, word_of, title_of, kind_of, is_first, is_last}

-- a title stands before its first entry
unfoldable pub opening : ℕ → List ℕ
opening i = cond (is_first i) (word_of (title_of i) ++ (space ∷ [])) []

-- and a new line begins after its last
abbrev pub closing : ℕ → ℕ
closing i = cond (is_last i) line_feed space

-- an entry's name, after its title if it is the first
unfoldable pub named : ℕ → List ℕ
named i = opening i ++ word_of (title_count + kind_of i) ++ (space ∷ [])

-- an entry's name and value
unfoldable pub entry_text : ℕ → ℕ → List ℕ
entry_text i value = named i ++ value_text (kind_at i) value ++ (closing i ∷ [])

unfoldable pub entry_texts : List ℕ → ℕ → List ℕ
entry_texts e zero = []
entry_texts e (suc n) = entry_texts e n ++ entry_text n (get_or e n 0)

abbrev pub junction_text : List ℕ → List ℕ
junction_text e = entry_texts e entry_count
