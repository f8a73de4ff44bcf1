-- A sheet is of a kind: a junction's is the entries, "28 lines of each approach, 4 cells of each pair, the last 8", 221 with Request
-- Six; a single point's, Request Seven, "the entries, lines 1–18 of each approach, two protected totals and the last eight: 175".
-- Where each cell stands, over the kind.
use Rattle.std.specs.Prelude.{ℕ, ◌+◌, ◌*◌, ◌/◌}
use Rattle.layout.specs.Entries.{approach_count, entry_count}
use Rattle.layout.specs.declared.Worksheet.{Worksheet}
use Rattle.layout.specs.declared.Worksheet.TheVariants.{Junction, Point}

-- "28 lines of each approach"; "lines 1–18 of each approach"
abbrev pub line_count : Worksheet → ℕ
line_count Junction = 28
line_count Point = 18

abbrev pub lines_from : ℕ
lines_from = entry_count

-- "Pairs (EB–WB, NB–SB), four cells each"; "two protected totals"
abbrev pub pair_count : ℕ
pair_count = 2

abbrev pub pair_cells : Worksheet → ℕ
pair_cells Junction = 4
pair_cells Point = 1

-- the approaches of a pair
abbrev pub in_pair : ℕ
in_pair = approach_count / pair_count

abbrev pub pairs_from : Worksheet → ℕ
pairs_from k = lines_from + line_count k * approach_count

-- "the last 8": four right totals, combined, required, ICU, letter
abbrev pub last_cells : ℕ
last_cells = approach_count + 4

abbrev pub last_from : Worksheet → ℕ
last_from k = pairs_from k + pair_cells k * pair_count

abbrev pub sheet_count : Worksheet → ℕ
sheet_count k = last_from k + last_cells

-- the first line of approach a
abbrev pub lines_of : Worksheet → ℕ → ℕ
lines_of k a = lines_from + line_count k * a

-- of a pair's cells, past its totals, the one that says which of them is picked; a pair of one total has none
abbrev pub pick_no : ℕ
pick_no = 3

-- the first cell of pair q, its protected total
abbrev pub pair_of : Worksheet → ℕ → ℕ
pair_of k q = pairs_from k + pair_cells k * q

-- of a junction's pair q, each cell by name
abbrev pub protected_cell : ℕ → ℕ
protected_cell q = pair_of Junction q

abbrev pub permitted_cell : ℕ → ℕ
permitted_cell q = pair_of Junction q + 1

abbrev pub split_cell : ℕ → ℕ
split_cell q = pair_of Junction q + 2

abbrev pub pick_cell : ℕ → ℕ
pick_cell q = pair_of Junction q + pick_no

-- the last, past the right totals
abbrev pub combined_cell : Worksheet → ℕ
combined_cell k = last_from k + approach_count

abbrev pub required_cell : Worksheet → ℕ
required_cell k = combined_cell k + 1

abbrev pub icu_cell : Worksheet → ℕ
icu_cell k = required_cell k + 1

abbrev pub letter_cell : Worksheet → ℕ
letter_cell k = icu_cell k + 1

-- the numbers of each approach that a page shows beside the sheet's cells, past them in one list: what a right total adds, and before
-- it the left group's own lane, where there is a line 23
abbrev pub beside_numbers : Worksheet → ℕ
beside_numbers Junction = 5
beside_numbers Point = 2

abbrev pub page_count : Worksheet → ℕ
page_count k = sheet_count k + beside_numbers k * approach_count

-- "BLANK is 4,294,967,295 and stands for 'not allowed'": the largest number of 32 bits
abbrev pub BLANK : ℕ
BLANK = 4_294_967_295
