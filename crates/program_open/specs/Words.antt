-- The words of a call of `icuoffice`, and the numbers in them: a study, an office, a job and what it is asked for, which is to add a
-- text, to amend an entry of a site, or to read a site.
use Rattle.std.specs.Prelude.{ℕ, cond, List, leb}
use Rattle.text_numbers.specs.Numbers.{too_large, number_of}
use Rattle.program_words.specs.Words.{word_at}
use Rattle.program_site.specs.Site.{site_named}

abbrev pub study_word : ℕ
study_word = 0

abbrev pub office_word : ℕ
office_word = 1

abbrev pub text_word : ℕ
text_word = 3

abbrev pub site_word : ℕ
site_word = 3

abbrev pub name_word : ℕ
name_word = 4

abbrev pub entry_word : ℕ
entry_word = 5

abbrev pub value_word : ℕ
value_word = 6

-- "an office that gives its number as 0" is none, and so is a word that is no number, or one of more than 32 bits
abbrev pub no_office : ℕ
no_office = 0

unfoldable pub office_of : List ℕ → ℕ
office_of word = cond (leb too_large (number_of word)) no_office (number_of word)

unfoldable pub office_in : List ℕ → ℕ
office_in words = office_of (word_at words office_word)

-- sites are counted from 1; a word that names none gives a place that there is not
unfoldable pub site_in : List ℕ → ℕ
site_in words = site_named (word_at words site_word)
