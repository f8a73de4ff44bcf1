-- How long a phrase is at most: no public promise says it.
use Rattle.std.specs.Prelude.{ℕ, ◌+◌, ◌*◌}
use Rattle.text_names.specs.Names.{word_width}

-- two words and the space between them
abbrev pub entry_name_most : ℕ
entry_name_most = 2 * word_width + 1
