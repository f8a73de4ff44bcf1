-- What reading a text comes to, for a sheet of kind k: its entries, or the first thing wrong and where it stands.
use Rattle.std.specs.Prelude.{ℕ, ◌-◌, cond, List, length, get_or, ltb, Option, None, Result, Ok, Err, unwrap_or}
use Rattle.layout.specs.declared.Worksheet.{Worksheet}
use Rattle.layout.specs.Entries.{shared_no, volume_no, approach_place, movement_place}
use Rattle.answers.specs.Answers.{refusal_place}
use Rattle.answers.specs.declared.Answer.{Answer}
use Rattle.answers.specs.declared.Answer.TheVariants.{Accepted, Refused as No}
use Rattle.answers.specs.declared.Place.{Place}
use Rattle.answers.specs.declared.Place.TheVariants.{OfNothing, OfEntries, OfApproaches, OfMovements, OfBytes, OfRecord, OfStudy}
use Rattle.answers.specs.declared.Refusal.{Refusal}
use Rattle.entries.specs.Judging.{judged_for}
use Rattle.text_values.specs.declared.Trouble.TheVariants.{TooLong}
use Rattle.text_words.specs.Standing.{Standing}
use Rattle.text_words.specs.declared.Mistake.{Mistake}
use Rattle.text_scan.specs.Scanning.{mark_size, parsed}
use Rattle.text_reader.specs.declared.Misreading.{Misreading}
use Rattle.text_reader.specs.declared.Misreading.TheVariants.{Misread, Refused}

-- the entry that a refusal is about, by what its place counts: an approach's shared lane, a movement's volume, or the place itself
abbrev pub entry_at : Place → ℕ → ℕ
entry_at OfNothing place = place
entry_at OfEntries place = place
entry_at OfApproaches place = approach_place place shared_no
entry_at OfMovements place = movement_place place volume_no
entry_at OfBytes place = place
entry_at OfRecord place = place
entry_at OfStudy place = place

abbrev pub fault_entry : Refusal → ℕ → ℕ
fault_entry why place = entry_at (refusal_place why) place

-- where the value of that entry is written; the text's start, if it is not
abbrev pub fault_place : List (Option ℕ) → Refusal → ℕ → ℕ
fault_place places why place = unwrap_or (get_or places (fault_entry why place) None) 0

-- what reading came to: read, or why not
abbrev pub Reading : Type 0
Reading = Result (Unit {0}) Misreading

abbrev pub judged_as : Answer → List (Option ℕ) → Reading
judged_as Accepted places = Ok tt
judged_as (No why place) places = Err (Refused why place (fault_place places why place))

abbrev pub found_as : Worksheet → Result Standing Mistake → List ℕ → List (Option ℕ) → Reading
found_as k (Ok reader) entries places = judged_as (judged_for k entries) places
found_as k (Err mistake) entries places = Err (Misread mistake)

unfoldable pub short_reading : Worksheet → List ℕ → Reading
short_reading k text = found_as k (parsed text).reader (parsed text).entries (parsed text).places

-- the most bytes that a text has
abbrev pub text_most : ℕ
text_most = 65_535

-- the entries, or the first thing wrong and where it stands in the text past its mark
unfoldable pub reading : Worksheet → List ℕ → Reading
reading k text = cond (ltb text_most (length text)) (Err (Misread (record { why = TooLong; place = text_most - mark_size text }))) (short_reading k text)

abbrev pub kept_unless_read : Reading → List ℕ → List ℕ → List ℕ
kept_unless_read (Ok done) new old = new
kept_unless_read (Err why) new old = old
