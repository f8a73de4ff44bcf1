-- What `icuoffice STUDY OFFICE amend SITE NAME ENTRY VALUE` gives: all that changes on the sheet of an office's site where one of its
-- entries changes, and the study with the changed block; or what is said, the first that applies.
use Rattle.std.specs.Prelude.{ℕ, List, [], set, Result, Ok, Err}
use Rattle.layout.specs.declared.Worksheet.TheVariants.{Junction}
use Rattle.procedure.specs.Sheet.{sheet}
use Rattle.page.specs.Worksheet.{change_text}
use Rattle.open_rules.specs.Open.{Study, block_at, amend_site_answer, amended_blocks}
use Rattle.open_file.specs.File.{open_file}
use Rattle.program_words.specs.Words.{word_at}
use Rattle.program_outcome.specs.Outcome.{Outcome, saying}
use Rattle.program_target.specs.Target.{Found}
use Rattle.program_changes.specs.declared.Change.{Change}
use Rattle.program_changes.specs.declared.Wrong.{Wrong}
use Rattle.program_changes.specs.Changes.{asked_of, wrong_text}
use Rattle.program_amend.specs.Run.{sheet_before}
use Rattle.program_open.specs.Words.{site_word, name_word, entry_word, value_word, office_in, site_in}
use Rattle.program_open.specs.Opening.{source_found, study_in, open_says, ◌or_gives◌, if_accepted}

-- what three words ask for, as in a change of `icuamend`; and what is said of the one that is wrong
unfoldable pub change_in : List ℕ → Result Change Wrong
change_in words = asked_of (word_at words name_word) (word_at words entry_word) (word_at words value_word)

unfoldable pub wrong_says : Wrong → List ℕ → List ℕ
wrong_says wrong words = wrong_text wrong (word_at words name_word) (word_at words entry_word) (word_at words value_word)

-- entry i of the site at place s becomes v: what changes on the sheet, and the study afterwards
abbrev pub amend_gives : Study → ℕ → ℕ → ℕ → ℕ → Outcome
amend_gives S office s i v =
    let e = block_at S.blocks s in
    record {
      prints = change_text Junction (sheet_before Junction e) (sheet (set e i v));
      writes = open_file S.owners (amended_blocks S office s i v);
      says = [];
    }

-- a refusal is said of the site
unfoldable pub amend_site : List ℕ → Study → ℕ → ℕ → Outcome
amend_site words S i v =
    if_accepted (amend_site_answer S (office_in words) (site_in words) i v) (word_at words site_word)
    (amend_gives S (office_in words) (site_in words) i v)

abbrev pub amend_by : Result Change Wrong → List ℕ → Study → Outcome
amend_by (Ok change) words S = amend_site words S change.entry change.value
amend_by (Err wrong) words S = saying (wrong_says wrong words)

-- what is said of the office's word or of the study; or else the site is amended
unfoldable pub open_amend_run : Found → List ℕ → List ℕ → Outcome
open_amend_run found words area =
    let source = source_found found in
    open_says source words area or_gives amend_by (change_in words) words (study_in source area)
