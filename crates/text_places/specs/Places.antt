-- Where a byte of a text stands: its line and its column.
use Rattle.std.specs.Prelude.{ℕ, zero, suc, ◌+◌, ◌-◌, ◌^◌, min, cond, List, ◌++◌, length, get_or, eqb}
use Rattle.text.specs.Text.{ascii}
use Rattle.text_names.specs.Names.{line_feed}
use Rattle.text_phrases.specs.Phrases.{numbered}

-- one more, as far as 32 bits go
abbrev pub more : ℕ → ℕ
more n = min (n + 1) (2 ^ 32 - 1)

-- the line and the column after the first n bytes of a text, from 1
unfoldable pub line_at : List ℕ → ℕ → ℕ
line_at text zero = 1
line_at text (suc n) = cond (eqb (get_or text n 0) line_feed) (more (line_at text n)) (line_at text n)

unfoldable pub column_at : List ℕ → ℕ → ℕ
column_at text zero = 1
column_at text (suc n) = cond (eqb (get_or text n 0) line_feed) 1 (more (column_at text n))

-- a place in a text, or its end for one that lies past it
abbrev pub within : List ℕ → ℕ → ℕ
within text place = min place (length text)

-- "line 3, column 11: "
unfoldable pub place_text : List ℕ → ℕ → List ℕ
place_text text place =
    numbered (ascii "line ") (line_at text (within text place))
    ++ numbered (ascii ", column ") (column_at text (within text place))
    ++ ascii ": "
