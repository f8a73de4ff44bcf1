-- A diamond's printed page: the byte in each column of each row, from the list of the page's numbers.
use Rattle.std.specs.Prelude.{ℕ, ◌+◌, ◌*◌, ◌-◌, ◌/◌, ◌%◌, Bool, cond, ◌&&◌, List, get_or, eqb, ltb}
use Rattle.lists.specs.Lists.{table}
use Rattle.text.specs.Text.{ascii}
use Rattle.layout.specs.Diamond.{plan_from, plan_pick, page_cells}
use Rattle.page_form.specs.Form.{title_width}
use Rattle.page_fields.specs.Fields.{last_place, space, shown}
use Rattle.page.specs.Worksheet.{line_feed, star_place, star_over, field_at, place_at}
use Rattle.diamond_form.specs.Form.{row_end, row_width, heading_byte, form_byte, unit_of, mark_in, number_in, row_count, part_of, line_of, form_row}

-- fields -------------------------------------------------------------------------------------------------------------

-- the byte of the unit y: whether it is so
abbrev pub answer : ℕ
answer = 121

unfoldable pub no_text : List ℕ
no_text = ascii "         no"

unfoldable pub yes_text : List ℕ
yes_text = ascii "        yes"

abbrev pub answer_byte : ℕ → ℕ → ℕ
answer_byte value p = get_or (cond (eqb value 0) no_text yes_text) (last_place - p) 0

-- place p, from the right, of a number by its unit
abbrev pub value_byte : ℕ → ℕ → ℕ → ℕ
value_byte unit value p = cond (eqb unit answer) (answer_byte value p) (shown unit value p)

-- the picked one of the three plans has a star
abbrev pub pick_place : ℕ
pick_place = page_cells + plan_pick

abbrev pub starred : List ℕ → ℕ → Bool
starred numbers place = ltb place pick_place && eqb place (page_cells + plan_from + get_or numbers pick_place 0)

abbrev pub starred_at : List ℕ → ℕ → ℕ → Bool
starred_at numbers place p = eqb p star_place && starred numbers place

-- a number where the row has a mark in the column, else blank
unfoldable pub field_byte : List ℕ → ℕ → ℕ → ℕ → ℕ → ℕ
field_byte numbers row side column p =
    let place = number_in row side column in
    cond (eqb (mark_in row column) space) space
    (star_over (starred_at numbers place p) (value_byte (unit_of row) (get_or numbers place 0) p))

-- the page -----------------------------------------------------------------------------------------------------------

-- a byte of a row: the line feed, or one of a heading, of a title or of a field
unfoldable pub row_byte : List ℕ → ℕ → ℕ → ℕ
row_byte numbers row i =
    cond (eqb i row_end) line_feed
    (cond (eqb (line_of row) 0) (heading_byte (part_of row) i)
    (cond (ltb i title_width) (form_byte (form_row row) i)
    (field_byte numbers (form_row row) (part_of row) (field_at i) (place_at i))))

abbrev pub page_bytes : ℕ
page_bytes = row_count * row_width

abbrev pub page_byte : List ℕ → ℕ → ℕ
page_byte numbers i = row_byte numbers (i / row_width) (i % row_width)

-- all of it, row after row
abbrev pub diamond_text : List ℕ → List ℕ
diamond_text numbers = table (page_byte numbers) page_bytes
