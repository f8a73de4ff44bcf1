-- What `icudiamond` gives: the worksheet of a diamond interchange under its heading; or what is said, the first that applies.
use Rattle.std.specs.Prelude.{ℕ, ◌+◌, ◌-◌, Bool, cond, List, [], ◌++◌, eqb, ltb}
use Rattle.answers.specs.declared.Answer.{Answer}
use Rattle.answers.specs.declared.Answer.TheVariants.{Accepted, Refused}
use Rattle.answers.specs.declared.Refusal.{Refusal}
use Rattle.layout.specs.Diamond.{storages_from}
use Rattle.diamond_rules.specs.Record.{judged_record}
use Rattle.diamond_beside.specs.Beside.{page_numbers}
use Rattle.diamond_page.specs.Page.{diamond_text}
use Rattle.text.specs.Text.{ascii}
use Rattle.text_titles.specs.Titles.{title_of}
use Rattle.text_scan.specs.Scanning.{unmarked}
use Rattle.text_refusals.specs.Refusals.{refusal_text}
use Rattle.program_words.specs.Words.{word_at}
use Rattle.program_wish.specs.Wish.{wish_of, version_text}
use Rattle.program_wish.specs.declared.Wish.{Wish}
use Rattle.program_wish.specs.declared.Wish.TheVariants.{Help, Version, Work}
use Rattle.program_outcome.specs.Outcome.{Input, Outcome, printing, saying, named}
use Rattle.program_heading.specs.Headings.{diamond_heading}
use Rattle.program_record.specs.declared.Files.{Files}
use Rattle.program_record.specs.Arguments.{◌or_else◌, is_nothing, bytes_of, west_word, east_word, own_from, own_count, own_word, arguments_say, record_of}
use Rattle.program_diamond.specs.declared.DiamondCall.{DiamondCall}

-- the number of arguments, the program's name among them: two texts, four storages and the travel time
abbrev pub diamond_takes : ℕ → Bool
diamond_takes count = eqb count (1 + own_from + own_count)

unfoldable pub diamond_use : List ℕ
diamond_use =
    ascii "usage: icudiamond WEST EAST WBL EBL EASTBOUND WESTBOUND TRAVEL\n"
    ++ ascii "                             prints the worksheet of a diamond interchange: the texts of its west and its east\n"
    ++ ascii "                             junction; the vehicles that find room for WB left, for EB left and on the road\n"
    ++ ascii "                             between, eastbound and westbound; and the time from one to the other, as 7.1s\n"
    ++ ascii "       icudiamond --help     prints this, and --version the version\n"

-- two acceptable junctions are refused together only where their cycles differ
unfoldable pub cycle_text : List ℕ
cycle_text = ascii "R3: the cycle is not that of the west junction\n"

-- a refusal of one of the record's own numbers is said of its word, any other of the east's text
unfoldable pub refusal_says : Refusal → ℕ → List ℕ → List ℕ
refusal_says why place words =
    cond (ltb place storages_from) (named (word_at words east_word) cycle_text)
    (named (own_word words (place - storages_from)) (refusal_text why place))

abbrev pub refused_says : Answer → List ℕ → List ℕ
refused_says Accepted words = []
refused_says (Refused why place) words = refusal_says why place words

-- what is said: of the arguments, or else of the record that they make
unfoldable pub diamond_says : Files → List ℕ → List ℕ → List ℕ → List ℕ
diamond_says files words west east =
    arguments_say files words west east or_else refused_says (judged_record (record_of files words west east)) words

-- a text's title
abbrev pub title_in : Input → List ℕ → List ℕ
title_in input area = title_of (unmarked (bytes_of input area))

-- what is printed, where nothing is said
abbrev pub heading_of : Files → List ℕ → List ℕ → List ℕ → List ℕ
heading_of files words west east =
    diamond_heading (word_at words west_word) (title_in files.west west) (word_at words east_word) (title_in files.east east)

unfoldable pub diamond_prints : Files → List ℕ → List ℕ → List ℕ → List ℕ
diamond_prints files words west east = heading_of files words west east ++ diamond_text (page_numbers (record_of files words west east))

abbrev pub diamond_of : Files → List ℕ → List ℕ → List ℕ → Outcome
diamond_of files words west east =
    cond (is_nothing (diamond_says files words west east)) (printing (diamond_prints files words west east))
    (saying (diamond_says files words west east))

abbrev pub work_run : DiamondCall → List ℕ → List ℕ → List ℕ → Outcome
work_run call words west east =
    cond (diamond_takes call.arguments) (diamond_of call.files words west east) (saying diamond_use)

abbrev pub run_by : Wish → DiamondCall → List ℕ → List ℕ → List ℕ → Outcome
run_by Help call words west east = printing diamond_use
run_by Version call words west east = printing version_text
run_by Work call words west east = work_run call words west east

unfoldable pub diamond_run : DiamondCall → List ℕ → List ℕ → List ℕ → Outcome
diamond_run call words west east = run_by (wish_of call.arguments (word_at words west_word)) call words west east
