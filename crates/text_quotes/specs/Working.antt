-- How long a quoted word is at most: no public promise says it.
use Rattle.std.specs.Prelude.{ℕ, ◌+◌}
use Rattle.text_quotes.specs.Quotes.{shown_most}

-- two quotes, what is shown, and two points
abbrev pub quoted_most : ℕ
quoted_most = shown_most + 4
