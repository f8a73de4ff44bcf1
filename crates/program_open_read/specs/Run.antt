-- What `icuoffice STUDY OFFICE read SITE` gives: the page of an office's site, as `icusheet` prints a study's; or what is said, the first
-- that applies.
use Rattle.std.specs.Prelude.{ℕ, false, List}
use Rattle.layout.specs.Open.{place_count}
use Rattle.layout.specs.declared.Worksheet.TheVariants.{Junction}
use Rattle.open_rules.specs.Open.{Study, block_at, read_answer}
use Rattle.program_words.specs.Words.{word_at}
use Rattle.program_outcome.specs.Outcome.{Input, Outcome}
use Rattle.program_heading.specs.declared.Spot.{Spot}
use Rattle.program_page.specs.Pages.{site_page}
use Rattle.program_open.specs.Words.{study_word, site_word, office_in, site_in}
use Rattle.program_open.specs.Opening.{source_read, study_in, open_says, blank_sheet, ◌or_gives◌, if_accepted}

-- "site 2 of 165", on a page by itself
abbrev pub spot_of : ℕ → Spot
spot_of site = record { site = site; sites = place_count; follows = false }

-- a refusal is said of the site
unfoldable pub read_site : List ℕ → Study → Outcome
read_site words S =
    if_accepted (read_answer S (office_in words) (site_in words) blank_sheet) (word_at words site_word)
    (site_page Junction (word_at words study_word) (spot_of (site_in words)) (block_at S.blocks (site_in words)))

-- what is said of the office's word or of the study; or else the site is read
unfoldable pub open_read_run : Input → List ℕ → List ℕ → Outcome
open_read_run input words area =
    let source = source_read input in
    open_says source words area or_gives read_site words (study_in source area)
