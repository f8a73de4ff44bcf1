-- The open study that a call of `icuoffice` works on, and what is said where there is none; and how a call goes on from there.
use Rattle.std.specs.Prelude.{ℕ, cond, List, [], ◌∷◌, take, replicate, eqb, Option, Some, None, Result, Ok, Err}
use Rattle.answers.specs.declared.Answer.{Answer}
use Rattle.answers.specs.declared.Answer.TheVariants.{Accepted, Refused}
use Rattle.layout.specs.declared.Worksheet.TheVariants.{Junction}
use Rattle.layout.specs.Sheet.{sheet_count}
use Rattle.text.specs.Text.{ascii}
use Rattle.text_refusals.specs.Refusals.{answer_text}
use Rattle.open_rules.specs.Open.{Study, study}
use Rattle.open_file.specs.File.{is_open, owners_in, blocks_in}
use Rattle.program_words.specs.Words.{word_at}
use Rattle.program_outcome.specs.declared.Remark.{Remark}
use Rattle.program_outcome.specs.declared.Remark.TheVariants.{Unread}
use Rattle.program_outcome.specs.Outcome.{Input, Outcome, saying, named, remarked}
use Rattle.program_target.specs.Target.{Found, barred_remark}
use Rattle.program_record.specs.Arguments.{◌or_else◌}
use Rattle.program_open.specs.Words.{study_word, office_word, no_office, office_in}

-- the study ------------------------------------------------------------------------------------------------------------

-- a file, of which so many bytes were read; nothing; or why it cannot be used
abbrev pub Source : Type 0
Source = Result (Option ℕ) Remark

-- what was found where it is to be written again, and what reading it came to
abbrev pub source_found : Found → Source
source_found (Ok there) = Ok there
source_found (Err why) = Err (barred_remark why)

abbrev pub source_read : Input → Source
source_read (Some size) = Ok (Some size)
source_read None = Err Unread

-- the bytes that were read into an area
abbrev pub bytes_in : Source → List ℕ → List ℕ
bytes_in (Ok (Some size)) area = take size area
bytes_in (Ok None) area = []
bytes_in (Err why) area = []

abbrev pub study_of : List ℕ → Study
study_of file = study (owners_in file) (blocks_in file)

unfoldable pub study_in : Source → List ℕ → Study
study_in source area = study_of (bytes_in source area)

-- what is said -----------------------------------------------------------------------------------------------------------

-- of the office's word, if it names none
unfoldable pub office_text : List ℕ
office_text = ascii "an office has a number, from 1 to 4294967295\n"

unfoldable pub office_says : List ℕ → List ℕ
office_says words = cond (eqb (office_in words) no_office) (named (word_at words office_word) office_text) []

-- of what stands where the study should be, if that is no open study
unfoldable pub unopened_text : List ℕ
unopened_text = ascii "no open study stands here: icuoffice STUDY new makes one where there is no file\n"

abbrev pub bytes_say : List ℕ → List ℕ → List ℕ
bytes_say name file = cond (is_open file) [] (named name unopened_text)

abbrev pub source_says : Source → List ℕ → List ℕ → List ℕ
source_says (Ok (Some size)) name area = bytes_say name (take size area)
source_says (Ok None) name area = named name unopened_text
source_says (Err why) name area = remarked name why

-- the office's word is judged first, then the study; nothing is said where all is well
unfoldable pub open_says : Source → List ℕ → List ℕ → List ℕ
open_says source words area = office_says words or_else source_says source (word_at words study_word) area

-- the sheet that is lent for the site that a call names
abbrev pub blank_sheet : List ℕ
blank_sheet = replicate (sheet_count Junction) 0

-- how it goes on ---------------------------------------------------------------------------------------------------------

-- what is said, or else what the call gives
infixr 40 ◌or_gives◌
abbrev pub ◌or_gives◌ : List ℕ → Outcome → Outcome
[] or_gives run = run
(byte ∷ bytes) or_gives run = saying (byte ∷ bytes)

-- what it gives where the study accepts it; a refusal is said of a word
abbrev pub if_accepted : Answer → List ℕ → Outcome → Outcome
if_accepted Accepted word run = run
if_accepted (Refused why place) word run = saying (named word (answer_text (Refused why place)))
