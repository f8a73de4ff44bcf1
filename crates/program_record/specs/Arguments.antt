-- The record that the arguments of `icudiamond` make: the texts of a diamond's junctions, west and east, then its own numbers, a word
-- each; and what is said where they make none, the first that applies.
use Rattle.std.specs.Prelude.{ℕ, zero, suc, ◌+◌, Bool, true, false, cond, List, [], ◌∷◌, ◌++◌, take, ltb, Some, None, Ok, Err}
use Rattle.lists.specs.Lists.{table}
use Rattle.answers.specs.declared.Answer.{Answer}
use Rattle.answers.specs.declared.Answer.TheVariants.{Accepted, Refused as No}
use Rattle.layout.specs.declared.Worksheet.TheVariants.{Junction}
use Rattle.layout.specs.Diamond.{storage_count}
use Rattle.kinds.specs.declared.Kind.{Kind}
use Rattle.kinds.specs.declared.Kind.TheVariants.{Storage, TravelTime}
use Rattle.study.specs.Study.{judgement}
use Rattle.text_values.specs.declared.Value.{Value}
use Rattle.text_values.specs.declared.Value.TheVariants.{Is, Not}
use Rattle.text_values.specs.Values.{value_of}
use Rattle.text_scan.specs.Scanning.{parsed}
use Rattle.text_reader.specs.Reader.{Reading, reading}
use Rattle.text_refusals.specs.Refusals.{reading_text}
use Rattle.text_troubles.specs.Troubles.{trouble_text}
use Rattle.program_words.specs.Words.{word_at}
use Rattle.program_outcome.specs.declared.Remark.TheVariants.{Unread, WantsText}
use Rattle.program_outcome.specs.Outcome.{Input, named, remarked}
use Rattle.program_record.specs.declared.Files.{Files}

-- what is said, or else the next
infixr 40 ◌or_else◌
abbrev pub ◌or_else◌ : List ℕ → List ℕ → List ℕ
[] or_else next = next
(byte ∷ bytes) or_else next = byte ∷ bytes

abbrev pub is_nothing : List ℕ → Bool
is_nothing [] = true
is_nothing (byte ∷ bytes) = false

-- a file ----------------------------------------------------------------------------------------------------------------

-- its bytes, where it could be read into an area
abbrev pub bytes_of : Input → List ℕ → List ℕ
bytes_of (Some size) area = take size area
bytes_of None area = []

-- the entries that its text writes
abbrev pub entries_of : Input → List ℕ → List ℕ
entries_of input area = (parsed (bytes_of input area)).entries

-- what is said of a text; nothing, if it is well
abbrev pub text_says : Reading → List ℕ → List ℕ → List ℕ
text_says (Ok done) name text = []
text_says (Err why) name text = named name (reading_text text (Err why))

-- bytes that are a study are no text
abbrev pub bytes_say : Answer → List ℕ → List ℕ → List ℕ
bytes_say Accepted name text = remarked name WantsText
bytes_say (No why place) name text = text_says (reading Junction text) name text

unfoldable pub file_says : Input → List ℕ → List ℕ → List ℕ
file_says (Some size) name area = bytes_say (judgement (take size area)) name (take size area)
file_says None name area = remarked name Unread

-- the words -------------------------------------------------------------------------------------------------------------

-- the texts' names, and past them the record's own numbers: its storages and the travel time
abbrev pub west_word : ℕ
west_word = 0

abbrev pub east_word : ℕ
east_word = 1

abbrev pub own_from : ℕ
own_from = 2

abbrev pub own_count : ℕ
own_count = storage_count + 1

-- own number k, from 0: its kind, its word, and what that is as a value
abbrev pub own_kind : ℕ → Kind
own_kind k = cond (ltb k storage_count) Storage TravelTime

abbrev pub own_word : List ℕ → ℕ → List ℕ
own_word words k = word_at words (own_from + k)

abbrev pub own_value : List ℕ → ℕ → Value
own_value words k = value_of (own_kind k) (own_word words k)

abbrev pub number_by : Value → ℕ
number_by (Is number) = number
number_by (Not why) = 0

abbrev pub own_numbers : List ℕ → List ℕ
own_numbers words = table (λ k. number_by (own_value words k)) own_count

-- what is said of a word; nothing, if it is a value
abbrev pub value_says : Value → List ℕ → List ℕ
value_says (Is number) word = []
value_says (Not why) word = named word (trouble_text why word)

-- of `left` words from number k on
unfoldable pub words_say : List ℕ → ℕ → ℕ → List ℕ
words_say words k zero = []
words_say words k (suc left) = value_says (own_value words k) (own_word words k) or_else words_say words (suc k) left

-- all of them -----------------------------------------------------------------------------------------------------------

-- what is said of the west's file, or else of the east's, or else of the words
unfoldable pub arguments_say : Files → List ℕ → List ℕ → List ℕ → List ℕ
arguments_say files words west east =
    file_says files.west (word_at words west_word) west
    or_else file_says files.east (word_at words east_word) east
    or_else words_say words 0 own_count

-- the record, where nothing is said
unfoldable pub record_of : Files → List ℕ → List ℕ → List ℕ → List ℕ
record_of files words west east = entries_of files.west west ++ entries_of files.east east ++ own_numbers words
