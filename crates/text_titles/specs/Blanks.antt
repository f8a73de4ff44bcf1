-- What stands between the words of a junction's text: blanks part them, and `#` begins a comment that ends with its line.
use Rattle.std.specs.Prelude.{ℕ, suc, Bool, cond, not, ◌||◌, List, [], ◌∷◌, eqb}
use Rattle.text_names.specs.Names.{space, line_feed}

abbrev pub tab : ℕ
tab = 9

abbrev pub carriage_return : ℕ
carriage_return = 13

-- it begins a comment
abbrev pub hash : ℕ
hash = 35

-- space, tab, carriage return and line feed part the words
abbrev pub is_blank : ℕ → Bool
is_blank byte = eqb byte space || eqb byte tab || eqb byte carriage_return || eqb byte line_feed

abbrev pub ends_word : ℕ → Bool
ends_word byte = is_blank byte || eqb byte hash

-- at the front of a text, the bytes of blanks and comments are passed over
abbrev pub is_lead : Bool → ℕ → Bool
is_lead comments byte = comments || ends_word byte

-- whether past a byte a comment goes on, or begins there
abbrev pub goes_on : Bool → ℕ → Bool
goes_on comments byte = cond comments (not (eqb byte line_feed)) (eqb byte hash)

-- how many bytes at the front of a text are blanks and comments, within a comment or not
unfoldable pub lead_size : Bool → List ℕ → ℕ
lead_size comments [] = 0
lead_size comments (byte ∷ bytes) = cond (is_lead comments byte) (suc (lead_size (goes_on comments byte) bytes)) 0
