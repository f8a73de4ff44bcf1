-- What an office reads in two studies: no public promise says it.
use Rattle.std.specs.Prelude.{ℕ, List, []}
use Rattle.answers.specs.Answers.{left_by}
use Rattle.layout.specs.declared.Worksheet.TheVariants.{Junction}
use Rattle.page.specs.Worksheet.{change_text}
use Rattle.open_rules.specs.Open.{Study, read_answer, read_sheet}
use Rattle.program_open.specs.Words.{office_in, site_in}
use Rattle.program_open.specs.Opening.{blank_sheet}

-- the sheet of the site that a call names; no cells, where the reading is refused
abbrev pub sheet_read : Study → List ℕ → List ℕ
sheet_read S words =
    left_by (read_answer S (office_in words) (site_in words) blank_sheet) (read_sheet S (office_in words) (site_in words) blank_sheet) []

-- what is listed of that sheet and the one afterwards
abbrev pub listing : Study → Study → List ℕ → List ℕ
listing before after words = change_text Junction (sheet_read before words) (read_sheet after (office_in words) (site_in words) blank_sheet)
