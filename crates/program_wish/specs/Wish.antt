-- What a program is asked for: in place of its work, how it is called, or its version; before it, which worksheet.
use Rattle.std.specs.Prelude.{ℕ, ◌-◌, Bool, cond, List, eqb}
use Rattle.std.specs.Str.{bytes_eq}
use Rattle.layout.specs.declared.Worksheet.{Worksheet}
use Rattle.layout.specs.declared.Worksheet.TheVariants.{Junction, Point}
use Rattle.text.specs.Text.{ascii}
use Rattle.program_words.specs.Words.{later_words, word_at}
use Rattle.program_wish.specs.declared.Wish.{Wish}
use Rattle.program_wish.specs.declared.Wish.TheVariants.{Help, Version, Work}

-- whether two words are the same
unfoldable pub same : List ℕ → List ℕ → Bool
same = bytes_eq

-- the number of arguments with one word, the program's name among them
abbrev pub one_word : ℕ
one_word = 2

-- by the number of arguments and the first word
unfoldable pub wish_of : ℕ → List ℕ → Wish
wish_of count word =
    cond (eqb count one_word) (cond (same word (ascii "--help")) Help (cond (same word (ascii "--version")) Version Work)) Work

-- the version is the header's
unfoldable pub version_text : List ℕ
version_text = ascii "icu2003 3.1\n"

-- the worksheet that the first word asks for
unfoldable pub worksheet_of : List ℕ → Worksheet
worksheet_of words = cond (same (word_at words 0) (ascii "--point")) Point Junction

-- the words past the one that asked for a worksheet, and how many arguments are left without it
abbrev pub words_for : Worksheet → List ℕ → List ℕ
words_for Junction words = words
words_for Point words = later_words words

abbrev pub arguments_for : Worksheet → ℕ → ℕ
arguments_for Junction count = count
arguments_for Point count = count - 1
