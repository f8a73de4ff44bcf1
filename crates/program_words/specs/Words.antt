-- The words that a program is called with: its arguments, each ended by a byte 0, one after the other.
use Rattle.std.specs.Prelude.{ℕ, zero, suc, cond, List, [], ◌∷◌, eqb}

-- the first word, and what follows its end
unfoldable pub first_word : List ℕ → List ℕ
first_word [] = []
first_word (byte ∷ bytes) = cond (eqb byte 0) [] (byte ∷ first_word bytes)

unfoldable pub later_words : List ℕ → List ℕ
later_words [] = []
later_words (byte ∷ bytes) = cond (eqb byte 0) bytes (later_words bytes)

-- word n, from 0; past the last, a word of no bytes
unfoldable pub word_at : List ℕ → ℕ → List ℕ
word_at words zero = first_word words
word_at words (suc n) = word_at (later_words words) n
