-- A page of entries under its heading, for a sheet of kind k, and what is said where they are refused.
use Rattle.std.specs.Prelude.{ℕ, List, [], ◌++◌}
use Rattle.answers.specs.declared.Answer.{Answer}
use Rattle.answers.specs.declared.Answer.TheVariants.{Accepted, Refused as No}
use Rattle.layout.specs.declared.Worksheet.{Worksheet}
use Rattle.entries.specs.Judging.{judged_for}
use Rattle.procedure.specs.Sheet.{sheet_for}
use Rattle.sheet_beside.specs.Beside.{beside}
use Rattle.page.specs.Worksheet.{sheet_text}
use Rattle.text_titles.specs.Titles.{title_of}
use Rattle.text_scan.specs.Scanning.{unmarked}
use Rattle.text_refusals.specs.Refusals.{answer_text}
use Rattle.program_outcome.specs.Outcome.{Outcome, printing, saying, named}
use Rattle.program_heading.specs.Headings.{text_heading, site_title, site_heading}
use Rattle.program_heading.specs.declared.Spot.{Spot}

-- nothing is printed, and nothing said
abbrev pub nothing : Outcome
nothing = printing []

-- the worksheet of entries, with what stands beside it
abbrev pub page_text : Worksheet → List ℕ → List ℕ
page_text k e = sheet_text k (sheet_for k e ++ beside k e)

-- what stands on a page of entries: the worksheet, or why they are refused
abbrev pub body_by : Answer → Worksheet → List ℕ → List ℕ
body_by Accepted k e = page_text k e
body_by (No why place) k e = answer_text (No why place)

unfoldable pub body_of : Worksheet → List ℕ → List ℕ
body_of k e = body_by (judged_for k e) k e

-- a refusal is said, too, of whose the entries are
abbrev pub refused_of : List ℕ → Answer → List ℕ
refused_of whose Accepted = []
refused_of whose (No why place) = named whose (answer_text (No why place))

abbrev pub page_of : Worksheet → List ℕ → List ℕ → List ℕ → Outcome
page_of k heading whose e = record { prints = heading ++ body_of k e; writes = []; says = refused_of whose (judged_for k e) }

-- of a text's entries, under its name and its title
unfoldable pub text_page : Worksheet → List ℕ → List ℕ → List ℕ → Outcome
text_page k name text e = page_of k (text_heading k name (title_of (unmarked text))) name e

-- of the entries of a site that a study has, among the pages of all its sites
unfoldable pub site_page : Worksheet → List ℕ → Spot → List ℕ → Outcome
site_page k name spot e = page_of k (site_heading k name spot) (site_title name spot.site) e

-- and alone: where they are refused, that is said and nothing printed
abbrev pub alone_by : Answer → Worksheet → List ℕ → Spot → List ℕ → Outcome
alone_by Accepted k name spot e = site_page k name spot e
alone_by (No why place) k name spot e = saying (refused_of (site_title name spot.site) (judged_for k e))

unfoldable pub site_alone : Worksheet → List ℕ → Spot → List ℕ → Outcome
site_alone k name spot e = alone_by (judged_for k e) k name spot e
