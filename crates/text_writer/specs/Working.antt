-- How long the text of an entry is at most: no public promise says it.
use Rattle.std.specs.Prelude.{ℕ, ◌+◌}
use Rattle.text_names.specs.Names.{word_width}
use Rattle.text_values.specs.Working.{value_most}

-- a word and the space past it
abbrev pub opening_most : ℕ
opening_most = word_width + 1

-- a title and a name
abbrev pub named_most : ℕ
named_most = opening_most + opening_most

-- and a value with the byte past it
abbrev pub entry_most : ℕ
entry_most = named_most + (value_most + 1)
