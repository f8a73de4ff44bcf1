-- What `icusheet` gives: the worksheet of a text or of a site of a study, of kind k, or what is said.
use Rattle.std.specs.Prelude.{ℕ, Bool, false, cond, not, List, ◌++◌, take, eqb, leb, Some, None, Ok, Err}
use Rattle.answers.specs.declared.Answer.{Answer}
use Rattle.answers.specs.declared.Answer.TheVariants.{Accepted, Refused as No}
use Rattle.layout.specs.declared.Worksheet.{Worksheet}
use Rattle.study.specs.Study.{judgement, count_of, site_entries}
use Rattle.text.specs.Text.{ascii}
use Rattle.text_scan.specs.Scanning.{parsed}
use Rattle.text_reader.specs.Reader.{Reading, reading}
use Rattle.text_refusals.specs.Refusals.{reading_text}
use Rattle.program_words.specs.Words.{word_at}
use Rattle.program_wish.specs.Wish.{same, wish_of, version_text}
use Rattle.program_wish.specs.declared.Wish.{Wish}
use Rattle.program_wish.specs.declared.Wish.TheVariants.{Help, Version, Work}
use Rattle.program_outcome.specs.declared.Call.{Call}
use Rattle.program_outcome.specs.declared.Remark.TheVariants.{IsStudy}
use Rattle.program_outcome.specs.Outcome.{Input, Outcome, is_either, printing, saying, named, remarked, with_file}
use Rattle.program_site.specs.Site.{sought, with_site}
use Rattle.program_heading.specs.declared.Spot.{Spot}
use Rattle.program_page.specs.Pages.{nothing, text_page, site_page, site_alone}

-- of the entries of a text, or what is wrong with it
abbrev pub read_as : Reading → Worksheet → List ℕ → List ℕ → Outcome
read_as (Ok done) k name text = text_page k name text (parsed text).entries
read_as (Err why) k name text = saying (named name (reading_text text (Err why)))

-- bytes that are a study are no text: a site is to be named
abbrev pub text_by : Answer → Worksheet → List ℕ → List ℕ → Outcome
text_by Accepted k name text = saying (remarked name IsStudy)
text_by (No why place) k name text = read_as (reading k text) k name text

unfoldable pub sheet_of_text : Worksheet → List ℕ → List ℕ → Outcome
sheet_of_text k name text = text_by (judgement text) k name text

-- a site of a study, and whether its page follows another
abbrev pub spot_in : List ℕ → ℕ → Bool → Spot
spot_in file site follows = record { site = site; sites = count_of file; follows = follows }

-- of the site that a word names, alone
unfoldable pub sheet_of_site : Worksheet → List ℕ → List ℕ → List ℕ → Outcome
sheet_of_site k name word file =
    with_site (sought file word) name word (λ site. site_alone k name (spot_in file site false) (site_entries file site))

-- of all sites, page after page: before them it is said where the file is no study, or a study of no site
unfoldable pub before_all : List ℕ → List ℕ → List ℕ → Outcome
before_all name word file = with_site (sought file (ascii "1")) name word (λ site. nothing)

unfoldable pub sheet_use : List ℕ
sheet_use =
    ascii "usage: icusheet TEXT         prints the worksheet of the junction in a text\n"
    ++ ascii "       icusheet STUDY SITE   prints that of a site of a study file, sites from 1\n"
    ++ ascii "       icusheet STUDY all    prints those of all its sites, a page each\n"
    ++ ascii "       icusheet --point ..   with any of these: prints that of a single point interchange\n"
    ++ ascii "       icusheet --help       prints this, and --version the version\n"

-- the number of arguments, the program's name among them: a text; a study and a site
abbrev pub sheet_takes : ℕ → Bool
sheet_takes count = is_either count 2 3

-- all sites are asked for
abbrev pub asks_all : List ℕ → Bool
asks_all word = same word (ascii "all")

abbrev pub sheet_of_file : Call → List ℕ → List ℕ → Outcome
sheet_of_file call words file =
    cond (eqb call.arguments 2) (sheet_of_text call.worksheet (word_at words 0) file)
    (cond (asks_all (word_at words 1)) (before_all (word_at words 0) (word_at words 1) file)
    (sheet_of_site call.worksheet (word_at words 0) (word_at words 1) file))

abbrev pub work_run : Call → List ℕ → List ℕ → Outcome
work_run call words area =
    cond (sheet_takes call.arguments) (with_file call.input (word_at words 0) area (sheet_of_file call words)) (saying sheet_use)

abbrev pub run_by : Wish → Call → List ℕ → List ℕ → Outcome
run_by Help call words area = printing sheet_use
run_by Version call words area = printing version_text
run_by Work call words area = work_run call words area

unfoldable pub sheet_run : Call → List ℕ → List ℕ → Outcome
sheet_run call words area = run_by (wish_of call.arguments (word_at words 0)) call words area

-- how many pages follow what a run gives: one for each site, where all are asked for
abbrev pub pages_in : Input → List ℕ → List ℕ → ℕ
pages_in (Some size) words area = cond (asks_all (word_at words 1)) (count_of (take size area)) 0
pages_in None words area = 0

unfoldable pub pages_of : Call → List ℕ → List ℕ → ℕ
pages_of call words area = cond (eqb call.arguments 3) (pages_in call.input words area) 0

-- the page of a site, from 0, among those of all
abbrev pub page_in : Worksheet → List ℕ → List ℕ → ℕ → Outcome
page_in k name file site =
    cond (leb (count_of file) site) nothing (site_page k name (spot_in file site (not (eqb site 0))) (site_entries file site))

abbrev pub page_by : Input → Worksheet → List ℕ → List ℕ → ℕ → Outcome
page_by (Some size) k words area site = page_in k (word_at words 0) (take size area) site
page_by None k words area site = nothing

unfoldable pub page_at : Call → List ℕ → List ℕ → ℕ → Outcome
page_at call words area site = page_by call.input call.worksheet words area site
