-- A sheet of a kind as a printed worksheet, and what an amendment changed: the byte in each column of each row.
use Rattle.std.specs.Prelude.{ℕ, zero, suc, ◌+◌, ◌*◌, ◌-◌, ◌/◌, ◌%◌, Bool, cond, not, ◌&&◌, ◌||◌, List, [], ◌++◌, length, get_or, eqb, leb, ltb}
use Rattle.lists.specs.Lists.{table}
use Rattle.text.specs.Text.{ascii}
use Rattle.layout.specs.Entries.{approach_count}
use Rattle.layout.specs.declared.Worksheet.{Worksheet}
use Rattle.layout.specs.Sheet.{icu_cell, sheet_count}
use Rattle.page_form.specs.Form.{title_width, title_byte, unit_of, row_count, section_at, section_of, cell_in, row_of, column_of}
use Rattle.page_stars.specs.Stars.{starred}
use Rattle.page_fields.specs.Fields.{field_width, last_place, space, pick, heading, no_sheet, field_text, column_field, shown}

abbrev pub line_feed : ℕ
line_feed = 10

-- a row is a title, a field for each approach and a line feed
abbrev pub row_end : ℕ
row_end = title_width + field_width * approach_count

abbrev pub row_width : ℕ
row_width = row_end + 1

-- fields -------------------------------------------------------------------------------------------------------------

-- the star's place: before it stands a blank that parts its field from the one at its left
abbrev pub star_place : ℕ
star_place = last_place - 1

-- a number that decides has a star at the left of its field, where that place is blank
abbrev pub starred_at : Worksheet → List ℕ → ℕ → ℕ → Bool
starred_at k cells cell p = eqb p star_place && starred k cells cell

abbrev pub star_over : Bool → ℕ → ℕ
star_over star byte = cond (star && eqb byte space) pick byte

unfoldable pub field_byte : Worksheet → List ℕ → ℕ → ℕ → ℕ → ℕ
field_byte k cells row column p =
    cond (leb (section_at k row).columns column) space
    (cond (eqb (unit_of k row) heading) (field_text (column_field (section_at k row).columns column) p)
    (star_over (starred_at k cells (cell_in k row column) p) (shown (unit_of k row) (get_or cells (cell_in k row column) 0) p)))

-- the sheet ----------------------------------------------------------------------------------------------------------

-- a byte of a row: of its title, of a field, or the line feed
unfoldable pub in_row : Worksheet → ℕ → ℕ → ℕ → ℕ
in_row k row i field = cond (eqb i row_end) line_feed (cond (ltb i title_width) (title_byte k (title_width * row + i)) field)

-- the field that it is of, and its place there
abbrev pub field_at : ℕ → ℕ
field_at i = (i - title_width) / field_width

abbrev pub place_at : ℕ → ℕ
place_at i = last_place - (i - title_width) % field_width

unfoldable pub row_byte : Worksheet → List ℕ → ℕ → ℕ → ℕ
row_byte k cells row i = in_row k row i (field_byte k cells row (field_at i) (place_at i))

abbrev pub sheet_bytes : Worksheet → ℕ
sheet_bytes k = row_count k * row_width

abbrev pub sheet_byte : Worksheet → List ℕ → ℕ → ℕ
sheet_byte k cells i = row_byte k cells (i / row_width) (i % row_width)

abbrev pub sheet_text : Worksheet → List ℕ → List ℕ
sheet_text k cells = table (sheet_byte k cells) (sheet_bytes k)

-- what changed -------------------------------------------------------------------------------------------------------

-- place p of a cell, as its row shows it
abbrev pub shown_cell : Worksheet → List ℕ → ℕ → ℕ → ℕ
shown_cell k cells cell p = shown (unit_of k (row_of k cell)) (get_or cells cell 0) p

-- of the sheet before, which has no cells where there was none
abbrev pub held_cell : Worksheet → List ℕ → ℕ → ℕ → ℕ
held_cell k before cell p = cond (leb (length before) cell) (field_text no_sheet p) (shown_cell k before cell p)

-- a cell's title, whose it is, what it held and what it holds
unfoldable pub change_field : Worksheet → List ℕ → List ℕ → ℕ → ℕ → ℕ → ℕ
change_field k before after cell field p =
    cond (eqb field 0) (field_text (column_field (section_of k cell).columns (column_of k cell)) p)
    (cond (eqb field 1) (held_cell k before cell p) (cond (eqb field 2) (shown_cell k after cell p) space))

unfoldable pub change_byte : Worksheet → List ℕ → List ℕ → ℕ → ℕ → ℕ
change_byte k before after cell i = in_row k (row_of k cell) i (change_field k before after cell (field_at i) (place_at i))

-- the ICU and the letter are listed also where they stay; every cell, where there was no sheet before
abbrev pub is_listed : Worksheet → List ℕ → List ℕ → ℕ → Bool
is_listed k before after cell =
    leb (length before) cell || (not (eqb (get_or before cell 0) (get_or after cell 0)) || leb (icu_cell k) cell)

unfoldable pub change_head : List ℕ
change_head = ascii "no changed cell              book :      where     before      after           \n"

-- the heading, and the rows of those of the first n cells that are listed
unfoldable pub change_rows : Worksheet → List ℕ → List ℕ → ℕ → List ℕ
change_rows k before after zero = change_head
change_rows k before after (suc n) =
    change_rows k before after n ++ cond (is_listed k before after n) (table (change_byte k before after n) row_width) []

abbrev pub change_text : Worksheet → List ℕ → List ℕ → List ℕ
change_text k before after = change_rows k before after (sheet_count k)
