-- What `icuamend` gives: what changes of entries change on a site's sheet of kind k, and the changed study; or what is said.
use Rattle.std.specs.Prelude.{ℕ, ◌+◌, ◌-◌, ◌/◌, ◌%◌, Bool, cond, ◌&&◌, List, [], ◌++◌, eqb, leb, ltb}
use Rattle.answers.specs.Answers.{left_by}
use Rattle.layout.specs.declared.Worksheet.{Worksheet}
use Rattle.entries.specs.Judging.{judged_for}
use Rattle.procedure.specs.Sheet.{sheet_for}
use Rattle.page.specs.Worksheet.{change_text}
use Rattle.study.specs.Study.{is_old, site_entries}
use Rattle.study_changed.specs.Changed.{with_entries}
use Rattle.text.specs.Text.{ascii}
use Rattle.program_words.specs.Words.{word_at}
use Rattle.program_wish.specs.Wish.{wish_of, version_text}
use Rattle.program_wish.specs.declared.Wish.{Wish}
use Rattle.program_wish.specs.declared.Wish.TheVariants.{Help, Version, Work}
use Rattle.program_outcome.specs.declared.Call.{Call}
use Rattle.program_outcome.specs.Outcome.{Outcome, printing, saying, named, with_file}
use Rattle.program_site.specs.Site.{sought, with_site}
use Rattle.program_changes.specs.Changes.{most_changes, changes_from, change_words, Changes, changed_by}

-- the arguments --------------------------------------------------------------------------------------------------------

-- those past a site: the program's own name is among them
abbrev pub past_site : ℕ → ℕ
past_site count = count - (changes_from + 1)

-- three for each change; one more names the file to write
abbrev pub changes_in : ℕ → ℕ
changes_in count = past_site count / change_words

abbrev pub left_over : ℕ → ℕ
left_over count = past_site count % change_words

abbrev pub is_kept : ℕ → Bool
is_kept count = eqb (left_over count) 1

abbrev pub amend_takes : ℕ → Bool
amend_takes count = ltb 0 (changes_in count) && (leb (changes_in count) most_changes && leb (left_over count) 1)

-- the last word's place
abbrev pub new_place : ℕ → ℕ
new_place count = count - 2

unfoldable pub amend_use : List ℕ
amend_use =
    ascii "usage: icuamend [--point] STUDY SITE NAME ENTRY VALUE [NAME ENTRY VALUE ..] [NEW]\n"
    ++ ascii "  prints what changes on the sheet of a site, from 1, as in: icuamend STUDY 1 EBT volume 450\n"
    ++ ascii "  --point: on the sheet of a single point interchange\n"
    ++ ascii "  NAME: EBL EBT EBR .. SBR with lanes volume ideal-flow lost-time minimum-green lane-factor,\n"
    ++ ascii "        EB WB NB SB with shared-lane pedestrians push-button pedestrian-time free-right,\n"
    ++ ascii "        junction with cycle; at most 20 changes, one after the other\n"
    ++ ascii "  NEW: the file that the changed study is written to\n"

-- the changes ----------------------------------------------------------------------------------------------------------

-- the sheet before the changes: no cells, where the entries are refused
abbrev pub sheet_before : Worksheet → List ℕ → List ℕ
sheet_before k e = left_by (judged_for k e) (sheet_for k e) []

-- where a change was made: all that changes is printed, and the study, in which the site has the changed entries, is written if it
-- is to be kept
unfoldable pub changes_give : Worksheet → List ℕ → ℕ → Bool → List ℕ → Changes → Outcome
changes_give k file site kept e so =
    record {
      prints = cond so.made (change_text k (sheet_before k e) (sheet_for k so.entries)) [];
      writes = cond (so.made && kept) (with_entries file site so.entries) [];
      says = so.says;
    }

-- of a site that the file has
unfoldable pub amend_site : Worksheet → ℕ → List ℕ → List ℕ → ℕ → Outcome
amend_site k count words file site =
    changes_give k file site (is_kept count) (site_entries file site) (changed_by k words (changes_in count) (site_entries file site))

-- the words: a study, a site, the changes; the name of the file to write, if any
unfoldable pub amend_file : Worksheet → ℕ → List ℕ → List ℕ → Outcome
amend_file k count words file = with_site (sought file (word_at words 1)) (word_at words 0) (word_at words 1) (amend_site k count words file)

-- a study of before is not written: where the changed one is to be kept, it is to be converted first
unfoldable pub old_text : List ℕ
old_text = ascii "a study of before (ICUS), which is not written any more: first icustudy convert it\n"

unfoldable pub amend_study : Worksheet → ℕ → List ℕ → List ℕ → Outcome
amend_study k count words file = cond (is_kept count && is_old file) (saying (named (word_at words 0) old_text)) (amend_file k count words file)

unfoldable pub amend_work : Call → List ℕ → List ℕ → Outcome
amend_work call words area =
    cond (amend_takes call.arguments) (with_file call.input (word_at words 0) area (amend_study call.worksheet call.arguments words))
    (saying amend_use)

-- how it is called, or its version, where that is asked for
abbrev pub as_wished : Wish → Outcome → Outcome
as_wished Help work = printing amend_use
as_wished Version work = printing version_text
as_wished Work work = work

unfoldable pub amend_run : Call → List ℕ → List ℕ → Outcome
amend_run call words area = as_wished (wish_of call.arguments (word_at words 0)) (amend_work call words area)
