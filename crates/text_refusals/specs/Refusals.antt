-- What is said, in words, where a text or a call is refused.
use Rattle.std.specs.Prelude.{ℕ, ◌+◌, cond, List, [], ◌++◌, eqb, ltb, Ok, Err}
use Rattle.layout.specs.Entries.{approach_count}
use Rattle.answers.specs.Answers.{refusal_number}
use Rattle.answers.specs.declared.Refusal.{Refusal}
use Rattle.answers.specs.declared.Refusal.TheVariants.{Size, Entry, Range, Shared, NoLane, File, Store, Travel, Owner, Full}
use Rattle.answers.specs.declared.Answer.{Answer}
use Rattle.answers.specs.declared.Answer.TheVariants.{Accepted, Refused as No}
use Rattle.kinds.specs.Kinds.{limits_of, kind_at}
use Rattle.kinds.specs.declared.Kind.{Kind}
use Rattle.kinds.specs.declared.Kind.TheVariants.{Storage, TravelTime}
use Rattle.text.specs.Text.{ascii}
use Rattle.text_names.specs.Names.{word_count, approaches}
use Rattle.text_phrases.specs.Phrases.{numbered, name_in, entry_name}
use Rattle.text_values.specs.Values.{value_text}
use Rattle.text_scan.specs.Scanning.{unmarked}
use Rattle.text_quotes.specs.Quotes.{word_at}
use Rattle.text_places.specs.Places.{place_text}
use Rattle.text_troubles.specs.Troubles.{trouble_text}
use Rattle.text_reader.specs.Reader.{Reading}
use Rattle.text_reader.specs.declared.Misreading.TheVariants.{Misread, Refused}

-- "0 or ", where the usual value stands apart, below the range
unfoldable pub apart_text : Kind → List ℕ
apart_text kind = cond (ltb (limits_of kind).usual (limits_of kind).least) (value_text kind (limits_of kind).usual ++ ascii " or ") []

-- "0 to 6", "0s to 20s"
unfoldable pub span_text : Kind → List ℕ
span_text kind = value_text kind (limits_of kind).least ++ ascii " to " ++ value_text kind (limits_of kind).most ++ ascii "\n"

-- the limits of a kind, as its values are typed: "0 to 6", "0 or 0.5 to 1"
unfoldable pub limits_text : Kind → List ℕ
limits_text kind = apart_text kind ++ span_text kind

-- "the storage is outside 1 to 999"
unfoldable pub outside_text : List ℕ → Kind → List ℕ
outside_text what kind = what ++ ascii " is outside " ++ limits_text kind

-- "EBL lanes is outside 0 to 6"
unfoldable pub range_text : ℕ → List ℕ
range_text entry = entry_name entry ++ ascii " is outside " ++ limits_text (kind_at entry)

-- the row of an approach's name, if there is such an approach
abbrev pub approach_row : ℕ → ℕ
approach_row approach = cond (ltb approach approach_count) (approaches.title + approach) word_count

-- "the study file is badly laid out at byte 4"; bytes that do not open as a study file are none
unfoldable pub file_text : ℕ → List ℕ
file_text place =
    cond (eqb place 0) (ascii "this is no study file\n") (numbered (ascii "the study file is badly laid out at byte ") place ++ ascii "\n")

-- a row for each refusal
unfoldable pub why_text : Refusal → ℕ → List ℕ
why_text Size place = ascii "the number of entries or cells is wrong\n"
why_text Entry place = ascii "there is no such entry\n"
why_text Range place = range_text place
why_text Shared place = name_in (approach_row place) ++ ascii ": a shared lane needs a through lane and no left lane beside it; a single point takes none\n"
why_text NoLane place = name_in place ++ ascii ": vehicles, and no lane that takes them\n"
why_text File place = file_text place
why_text Store place = outside_text (ascii "the storage") Storage
why_text Travel place = outside_text (ascii "the travel time") TravelTime
why_text Owner place = ascii "the office has no site there\n"
why_text Full place = ascii "every place is taken\n"

-- "R3: EBL lanes is outside 0 to 6"
unfoldable pub refusal_text : Refusal → ℕ → List ℕ
refusal_text why place = numbered (ascii "R") (refusal_number why) ++ ascii ": " ++ why_text why place

-- what is said of an answer, and of what reading came to
abbrev pub answer_text : Answer → List ℕ
answer_text Accepted = []
answer_text (No why place) = refusal_text why place

-- of a text past its mark
abbrev pub said_of : List ℕ → Reading → List ℕ
said_of text (Ok done) = []
said_of text (Err (Misread mistake)) = place_text text mistake.place ++ trouble_text mistake.why (word_at text mistake.place)
said_of text (Err (Refused why at place)) = place_text text place ++ refusal_text why at

abbrev pub reading_text : List ℕ → Reading → List ℕ
reading_text text reading = said_of (unmarked text) reading
