-- "Study file and listing": the text that lists a study file.
use Rattle.std.specs.Prelude.{ℕ, zero, suc, ◌+◌, List, [], ◌++◌, length, get_or, ltb, Result, Ok, Err}
use Rattle.layout.specs.declared.Worksheet.TheVariants.{Junction}
use Rattle.layout.specs.Sheet.{pick_cell, icu_cell, letter_cell}
use Rattle.answers.specs.Answers.{refuse_if}
use Rattle.answers.specs.declared.Refusal.TheVariants.{File}
use Rattle.answers.specs.declared.Answer.{Answer}
use Rattle.answers.specs.declared.Answer.TheVariants.{Accepted}
use Rattle.answers.specs.declared.Answer.TheVariants.{Refused as No}
use Rattle.entries.specs.Judging.{judged}
use Rattle.procedure.specs.Sheet.{sheet}
use Rattle.study_format.specs.Format.{room_place}
use Rattle.study.specs.Study.{sites_of, site_entries, judgement}
use Rattle.study_lines.specs.Lines.{line_of, file_line}
use Rattle.study_lines.specs.declared.Rating.{Rating}
use Rattle.study_lines.specs.declared.Refused.{Refused}

-- the cells of a sheet that are shown: ICU, letter, and the picks of EB–WB and NB–SB
abbrev pub rating_of : List ℕ → Rating
rating_of cells =
    record {
      icu = get_or cells (icu_cell Junction) 0;
      letter = get_or cells (letter_cell Junction) 0;
      first = get_or cells (pick_cell 0) 0;
      second = get_or cells (pick_cell 1) 0;
    }

-- what is shown of a site whose entries were answered so and whose sheet is this
abbrev pub shown : Answer → List ℕ → Result Rating Refused
shown Accepted cells = Ok (rating_of cells)
shown (No why' place') cells = Err record { why = why'; place = place' }

unfoldable pub site_of : List ℕ → Result Rating Refused
site_of e = shown (judged e) (sheet e)

abbrev pub site_line : ℕ → List ℕ → List ℕ
site_line number e = line_of number (site_of e)

-- the lines of the first n sites, site after site
unfoldable pub site_lines : List ℕ → ℕ → List ℕ
site_lines file zero = []
site_lines file (suc n) = site_lines file n ++ site_line (n + 1) (site_entries file n)

abbrev pub listing_by : Answer → List ℕ → List ℕ
listing_by Accepted file = site_lines file (sites_of file)
listing_by (No why place) file = file_line place

unfoldable pub listing : List ℕ → List ℕ
listing file = listing_by (judgement file) file

-- "output too short"; "4 for too little room"
abbrev pub list_answer : List ℕ → ℕ → Answer
list_answer file room = refuse_if (ltb room (length (listing file))) File room_place
