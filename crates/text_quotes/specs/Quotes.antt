-- A word of a text, quoted in what is said of it: its first bytes, and what no ASCII letter, digit or sign is as a question mark.
use Rattle.std.specs.Prelude.{ℕ, min, cond, ◌&&◌, List, [], ◌∷◌, ◌++◌, length, get_or, take, drop, leb, ltb}
use Rattle.lists.specs.Lists.{table}
use Rattle.text.specs.Text.{ascii, first_in}
use Rattle.text_titles.specs.Blanks.{ends_word}
use Rattle.text_titles.specs.Titles.{quote}

-- the word that begins at a place of a text
abbrev pub first_word : List ℕ → List ℕ
first_word text = take (first_in ends_word text) text

abbrev pub word_at : List ℕ → ℕ → List ℕ
word_at text place = first_word (drop place text)

-- the most bytes of a word that are shown
abbrev pub shown_most : ℕ
shown_most = 24

-- the signs of ASCII stand from "!" to "~"; "?" for anything else
abbrev pub shown_byte : ℕ → ℕ
shown_byte byte = cond (leb 33 byte && leb byte 126) byte 63

unfoldable pub shown : List ℕ → List ℕ
shown word = table (λ i. shown_byte (get_or word i 0)) (min (length word) shown_most)

-- two points stand for what is not shown
unfoldable pub rest_mark : List ℕ → List ℕ
rest_mark word = cond (ltb shown_most (length word)) (ascii "..") []

-- a word in quotes
unfoldable pub quoted : List ℕ → List ℕ
quoted word = (quote ∷ []) ++ shown word ++ rest_mark word ++ (quote ∷ [])
