-- What `iculist` gives: the listing of the study file that was read, or what is said.
use Rattle.std.specs.Prelude.{ℕ, Bool, cond, List, ◌++◌, take, eqb, Some, None}
use Rattle.text.specs.Text.{ascii}
use Rattle.study_listing.specs.Listing.{listing}
use Rattle.program_words.specs.Words.{word_at}
use Rattle.program_wish.specs.Wish.{wish_of, version_text}
use Rattle.program_wish.specs.declared.Wish.{Wish}
use Rattle.program_wish.specs.declared.Wish.TheVariants.{Help, Version, Work}
use Rattle.program_outcome.specs.declared.Call.{Call}
use Rattle.program_outcome.specs.declared.Remark.TheVariants.{Unread, NoInput}
use Rattle.program_outcome.specs.Outcome.{Input, Outcome, is_either, printing, saying, remarked}

unfoldable pub list_name : List ℕ
list_name = ascii "iculist"

unfoldable pub list_use : List ℕ
list_use =
    ascii "usage: iculist         lists the study file on standard input\n"
    ++ ascii "       iculist STUDY   lists a study file, a line for each site\n"

-- the number of arguments, the program's name among them: none, and the study file is on standard input; or its name
abbrev pub list_takes : ℕ → Bool
list_takes count = is_either count 1 2

abbrev pub list_named : ℕ → Bool
list_named count = eqb count 2

-- what is said where it cannot be read
unfoldable pub unread : ℕ → List ℕ → List ℕ
unread count words = cond (list_named count) (remarked (word_at words 0) Unread) (remarked list_name NoInput)

-- the listing of what was read into the area
unfoldable pub list_read : ℕ → Input → List ℕ → List ℕ → Outcome
list_read count (Some size) words area = printing (listing (take size area))
list_read count None words area = saying (unread count words)

-- by what is wished for
abbrev pub list_for : Wish → Call → List ℕ → List ℕ → Outcome
list_for Help call words area = printing list_use
list_for Version call words area = printing version_text
list_for Work call words area =
    cond (list_takes call.arguments) (list_read call.arguments call.input words area) (saying list_use)

unfoldable pub list_run : Call → List ℕ → List ℕ → Outcome
list_run call words area = list_for (wish_of call.arguments (word_at words 0)) call words area
