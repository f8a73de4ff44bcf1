-- What is said, in words, of what is wrong with a text.
use Rattle.std.specs.Prelude.{ℕ, List, ◌++◌}
use Rattle.text.specs.Text.{ascii}
use Rattle.text_quotes.specs.Quotes.{quoted}
use Rattle.text_values.specs.declared.Trouble.{Trouble}
use Rattle.text_values.specs.declared.Trouble.TheVariants.{Unknown, NoTitle, NotOfTitle, Twice}
use Rattle.text_values.specs.declared.Trouble.TheVariants.{NotNumber, NotTime, NotFactor, TooLarge, Ends, TooLong, BadTitle}

-- a row for each trouble, and the word that it is about
abbrev pub trouble_text : Trouble → List ℕ → List ℕ
trouble_text Unknown word = quoted word ++ ascii ": no movement, approach or entry has this name\n"
trouble_text NoTitle word = ascii "name a movement, an approach or the junction before its entries\n"
trouble_text NotOfTitle word = ascii "what was named before has no such entry\n"
trouble_text Twice word = ascii "this entry was written before\n"
trouble_text NotNumber word = ascii "a whole number without a unit is expected here\n"
trouble_text NotTime word = ascii "a time is written with its unit, as 4s, 4.5s or 4000ms\n"
trouble_text NotFactor word = ascii "a factor is written as 0.971 or 1, or as 0 for the table's\n"
trouble_text TooLarge word = ascii "this number is too large\n"
trouble_text Ends word = ascii "the text ends where a value is expected\n"
trouble_text TooLong word = ascii "a text has at most 65535 bytes\n"
trouble_text BadTitle word = ascii "a title is written in quotes, as title \"Elm and 3rd\", with at most 60 bytes\n"
