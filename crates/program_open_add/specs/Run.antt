-- What `icuoffice STUDY OFFICE add TEXT` gives: the place that the text's junction was given, and the study with it; or what is said,
-- the first that applies.
use Rattle.std.specs.Prelude.{ℕ, ◌+◌, List, [], ◌∷◌, ◌++◌}
use Rattle.text.specs.Text.{ascii}
use Rattle.text_phrases.specs.Phrases.{numbered}
use Rattle.text_names.specs.Names.{line_feed}
use Rattle.open_rules.specs.Open.{Study, add_answer, added, added_place}
use Rattle.open_file.specs.File.{open_file}
use Rattle.program_words.specs.Words.{word_at}
use Rattle.program_outcome.specs.Outcome.{Outcome}
use Rattle.program_record.specs.Arguments.{entries_of, file_says}
use Rattle.program_open.specs.Words.{study_word, text_word, office_in}
use Rattle.program_open.specs.Opening.{source_found, study_in, open_says, ◌or_gives◌, if_accepted}
use Rattle.program_open_add.specs.declared.Files.{Files}

-- "site 3": places are told from 1
unfoldable pub place_text : ℕ → List ℕ
place_text place = numbered (ascii "site ") (place + 1) ++ (line_feed ∷ [])

-- the study of entries added, and the place that they got
abbrev pub add_gives : ℕ → List ℕ → Study → Outcome
add_gives office e S =
    record { prints = place_text (added_place S office e 0); writes = open_file (added S office e).owners (added S office e).blocks; says = [] }

-- a refusal is said of the study
unfoldable pub add_site : List ℕ → List ℕ → Study → Outcome
add_site words e S = if_accepted (add_answer S (office_in words) e) (word_at words study_word) (add_gives (office_in words) e S)

-- what is said of the office's word, of the study, or of the text, which is taken as a junction's is; or else the site is added
unfoldable pub open_add_run : Files → List ℕ → List ℕ → List ℕ → Outcome
open_add_run files words area text =
    let source = source_found files.study in
    open_says source words area
    or_gives file_says files.text (word_at words text_word) text
    or_gives add_site words (entries_of files.text text) (study_in source area)
