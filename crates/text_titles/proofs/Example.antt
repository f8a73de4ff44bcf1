-- What is a title, and what is not.
use mathlib.Core.Path.{◌≡◌, refl}
use Rattle.text.specs.Text.{ascii, first_in}
use Rattle.text_titles.specs.Blanks.{lead_size}
use Rattle.text_titles.specs.Titles.{is_quoted, titling_of, title_of}
use Rattle.std.specs.Prelude.{None, Some, Ok, Err}

given : title_of (ascii "# by hand\n title \"Elm and 3rd\"\nEBL lanes 2") ≡ ascii "Elm and 3rd"
unfolding ascii first_in lead_size is_quoted titling_of
given = refl

place : titling_of (ascii "title \"Elm\" EBL") ≡ Ok (Some (record { from = 7; size = 3; past = 11 }))
unfolding ascii first_in lead_size is_quoted titling_of
place = refl

open_quote : titling_of (ascii "# one\ntitle \"Elm\n\"") ≡ Err 6
unfolding ascii first_in lead_size is_quoted titling_of
open_quote = refl

unquoted : titling_of (ascii "title Elm") ≡ Err 0
unfolding ascii first_in lead_size is_quoted titling_of
unquoted = refl

nothing : titling_of (ascii "title \"\"") ≡ Err 0
unfolding ascii first_in lead_size is_quoted titling_of
nothing = refl

elsewhere : titling_of (ascii "EBL title \"Elm\"") ≡ Ok None
unfolding ascii first_in lead_size is_quoted titling_of
elsewhere = refl
