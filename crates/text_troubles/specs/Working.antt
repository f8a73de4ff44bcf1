-- How long a sentence is at most: no public promise says it.
use Rattle.std.specs.Prelude.{ℕ, ◌+◌}
use Rattle.text_quotes.specs.Working.{quoted_most}

-- that of a title has the most, 77 bytes; that of an unknown word has 47 past the word
abbrev pub trouble_most : ℕ
trouble_most = quoted_most + 49
