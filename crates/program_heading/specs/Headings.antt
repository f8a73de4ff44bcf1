-- The line over a printed sheet of kind k, which tells whose it is: `elm.txt: Elm Street and 3rd Avenue`, `two.icus, site 2 of 2`,
-- `single point: spui.txt`; over a diamond's, a line for each of its junctions.
use Rattle.std.specs.Prelude.{ℕ, ◌+◌, cond, List, [], ◌∷◌, ◌++◌, length, get_or, take, eqb}
use Rattle.lists.specs.Lists.{table}
use Rattle.text.specs.Text.{ascii}
use Rattle.layout.specs.declared.Worksheet.{Worksheet}
use Rattle.layout.specs.declared.Worksheet.TheVariants.{Junction, Point}
use Rattle.text_phrases.specs.Phrases.{numbered}
use Rattle.text_titles.specs.Titles.{steers, title_most}
use Rattle.program_outcome.specs.Outcome.{word_most}
use Rattle.program_heading.specs.declared.Spot.{Spot}

-- "?" stands for a byte that steers a terminal
abbrev pub shown_byte : ℕ → ℕ
shown_byte byte = cond (steers byte) 63 byte

unfoldable pub shown : List ℕ → List ℕ
shown name = table (λ i. shown_byte (get_or name i 0)) (length name)

-- the file's name, as it was typed
abbrev pub shown_name : List ℕ → List ℕ
shown_name name = shown (take word_most name)

-- ": Elm Street and 3rd Avenue", where there is a title
unfoldable pub titled : List ℕ → List ℕ
titled title = cond (eqb (length title) 0) [] (ascii ": " ++ take title_most title)

-- before the name: which worksheet it is, where it is not a junction's
unfoldable pub worksheet_title : Worksheet → List ℕ
worksheet_title Junction = []
worksheet_title Point = ascii "single point: "

-- an empty line parts the heading from the page
abbrev pub line_ends : List ℕ
line_ends = ascii "\n\n"

unfoldable pub text_heading : Worksheet → List ℕ → List ℕ → List ℕ
text_heading k name title = worksheet_title k ++ shown_name name ++ titled title ++ line_ends

-- "two.icus, site 2": sites are counted from 1
unfoldable pub site_title : List ℕ → ℕ → List ℕ
site_title name site = shown_name name ++ numbered (ascii ", site ") (site + 1)

-- a form feed begins a page that follows another
abbrev pub form_feed : ℕ
form_feed = 12

unfoldable pub feed : Spot → List ℕ
feed spot = cond spot.follows (form_feed ∷ []) []

-- "two.icus, site 2 of 2"
unfoldable pub site_heading : Worksheet → List ℕ → Spot → List ℕ
site_heading k name spot = feed spot ++ worksheet_title k ++ site_title name spot.site ++ numbered (ascii " of ") spot.sites ++ line_ends

-- "west: sb-ramp.txt: Main Street and I-99 SB"
unfoldable pub side_line : List ℕ → List ℕ → List ℕ → List ℕ
side_line side name title = side ++ shown_name name ++ titled title

-- the west's line and the east's
unfoldable pub diamond_heading : List ℕ → List ℕ → List ℕ → List ℕ → List ℕ
diamond_heading west west_title east east_title =
    side_line (ascii "west: ") west west_title ++ side_line (ascii "\neast: ") east east_title ++ line_ends
