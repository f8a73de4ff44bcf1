-- The form of a diamond's printed page: its rows, and which number of the page's list stands in a column of a row.
use Rattle.std.specs.Prelude.{ℕ, ◌+◌, ◌*◌, ◌-◌, ◌/◌, ◌%◌, cond, List, [], ◌∷◌, ◌++◌, map, get_or, eqb, ltb}
use Prim.Native.String.{String}
use Rattle.text.specs.Text.{joined}
use Rattle.layout.specs.Entries.{EB, WB, NB, SB, left, through, right, group_count, movement_place, approach_place, cycle_entry}
use Rattle.layout.specs.Entries.{lanes_no, volume_no, ideal_no, lost_no, green_no, factor_no, shared_no, walkers_no, button_no, crossing_no, free_no}
use Rattle.layout.specs.declared.Worksheet.TheVariants.{Junction}
use Rattle.layout.specs.Sheet.{sheet_count, lines_of}
use Rattle.layout.specs.Diamond.{side_count, side_times, storage_count, isolated_cell, alternate_cell, combined_from, overlap_cell, plan_from, best_cell}
use Rattle.layout.specs.Diamond.{diamond_icu, diamond_letter, page_own, page_cells, page_volumes, page_rooms, page_fits}
use Rattle.page_form.specs.Form.{title_width}
use Rattle.page_fields.specs.Fields.{field_width}

-- a row is a title, a field for each column of a side and a line feed
abbrev pub row_end : ℕ
row_end = title_width + field_width * side_times

abbrev pub row_width : ℕ
row_width = row_end + 1

-- headings -----------------------------------------------------------------------------------------------------------

-- over the west junction's rows, the east's, and those of the whole
abbrev pub headings : List String
headings =
    "no west junction             book :        EBT        EBR        WBL        WBT        SBL        SBT        SBR" ∷
    "no east junction             book :        WBT        WBR        EBL        EBT        NBL        NBT        NBR" ∷
    "no interchange               book :       west       east                                                       " ∷
    []

unfoldable pub heading_bytes : List ℕ
heading_bytes = joined headings

abbrev pub heading_byte : ℕ → ℕ → ℕ
heading_byte part i = get_or heading_bytes (row_end * part + i) 0

-- columns ------------------------------------------------------------------------------------------------------------

-- the movements that the columns of a side are of, the west's and then the east's
abbrev pub movements : List ℕ
movements =
    through EB ∷ right EB ∷ left WB ∷ through WB ∷ left SB ∷ through SB ∷ right SB ∷
    through WB ∷ right WB ∷ left EB ∷ through EB ∷ left NB ∷ through NB ∷ right NB ∷
    []

abbrev pub movement_in : ℕ → ℕ → ℕ
movement_in side column = get_or movements (side_times * side + column) 0

abbrev pub approach_in : ℕ → ℕ → ℕ
approach_in side column = movement_in side column / group_count

-- left, through or right
abbrev pub group_in : ℕ → ℕ → ℕ
group_in side column = movement_in side column % group_count

-- the lefts of a side stand two columns apart, from this one on; and its storages two places apart
abbrev pub first_left : ℕ
first_left = 2

-- rows ---------------------------------------------------------------------------------------------------------------

-- a title is the row's number in the rules, its name, its line in the book and its unit; after a blank follows a mark for each column:
-- m an entry of the column's movement, a of its approach; g the line of its group among its approach's, l one line of its approach;
-- t its interchange time; s a number of its storage; w a number of the whole
pub record Row : Type 0 where
  pub text : String
  -- which entry or line, or where in the page's list such numbers begin
  pub first : ℕ

infix 70 ◌from◌
abbrev pub ◌from◌ : String → ℕ → Row
text from first = record { text = text; first = first }

-- under the heading of a side
abbrev pub side_rows : List Row
side_rows =
    "   lanes                        2 n mmmmmmm" from lanes_no ∷
    "   shared lane                  3 n a  a a " from shared_no ∷
    "   volume                       4 v mmmmmmm" from volume_no ∷
    "   pedestrians                  5 p a  a a " from walkers_no ∷
    "   push button                  6 n a  a a " from button_no ∷
    "   pedestrian time              7 s a  a a " from crossing_no ∷
    "   free right                   8 n  a    a" from free_no ∷
    "   ideal flow                   9 v mmmmmmm" from ideal_no ∷
    "   storage                     10 n   s s  " from page_own ∷
    "   lost time                   11 s mmmmmmm" from lost_no ∷
    "   minimum green               12 s mmmmmmm" from green_no ∷
    "1  volume combined             16 v ggggggg" from 1 ∷
    "   lane factor                 17 F mmmmmmm" from factor_no ∷
    "4  turning factor              18 f l  l l " from 4 ∷
    "5  flow                        19 V ggggggg" from 5 ∷
    "10 interference, right         20 s  l    l" from 10 ∷
    "11 interference, through       20 s l  l l " from 11 ∷
    "12 pedestrian frequency        21 f l  l l " from 12 ∷
    "13 reference time              22 s ggggggg" from 13 ∷
    "16 adjusted time               23 s ggggggg" from 16 ∷
    "   interchange time            24 s ttttttt" from page_cells ∷
    "   left volume x cycle, N      25 n   s s  " from page_volumes ∷
    "   3600 x storage              26 n   s s  " from page_rooms ∷
    "   ratio below 1               27 y   s s  " from page_fits ∷
    []

-- and under that of the whole
abbrev pub whole_rows : List Row
whole_rows =
    "   isolated time 1             28 s ww     " from (page_cells + isolated_cell) ∷
    "   isolated alternate          29 s ww     " from (page_cells + alternate_cell) ∷
    "   isolated combined           30 s ww     " from (page_cells + combined_from) ∷
    "   overlap                     31 s ww     " from (page_cells + overlap_cell) ∷
    "   cycle, in seconds           13 n w      " from cycle_entry ∷
    "   travel time                 14 s w      " from (page_own + storage_count) ∷
    "   leading alternate           32 s w      " from (page_cells + plan_from) ∷
    "   lagging                     33 s w      " from (page_cells + plan_from + 1) ∷
    "   lead-lag                    34 s w      " from (page_cells + plan_from + 2) ∷
    "   best                        35 s w      " from (page_cells + best_cell) ∷
    "   ICU                         36 % w      " from (page_cells + diamond_icu) ∷
    "   level of service            37 A w      " from (page_cells + diamond_letter) ∷
    []

abbrev pub side_lines : ℕ
side_lines = 24

abbrev pub whole_lines : ℕ
whole_lines = 12

abbrev pub marks_from : ℕ
marks_from = title_width + 1

abbrev pub form_width : ℕ
form_width = marks_from + side_times

unfoldable pub form_bytes : List ℕ
form_bytes = joined (map (λ r. r.text) (side_rows ++ whole_rows))

-- byte i of a row
abbrev pub form_byte : ℕ → ℕ → ℕ
form_byte row i = get_or form_bytes (form_width * row + i) 0

-- a row's unit is its title's last byte
abbrev pub unit_of : ℕ → ℕ
unit_of row = form_byte row (title_width - 1)

abbrev pub mark_in : ℕ → ℕ → ℕ
mark_in row column = form_byte row (marks_from + column)

unfoldable pub first_of : ℕ → ℕ
first_of row = get_or (map (λ r. r.first) (side_rows ++ whole_rows)) row 0

-- numbers ------------------------------------------------------------------------------------------------------------

-- the bytes of the marks m, a, g, l, t and s
abbrev pub of_movement : ℕ
of_movement = 109

abbrev pub of_approach : ℕ
of_approach = 97

abbrev pub of_group : ℕ
of_group = 103

abbrev pub of_line : ℕ
of_line = 108

abbrev pub of_time : ℕ
of_time = 116

abbrev pub of_storage : ℕ
of_storage = 115

-- line k of the column's approach
abbrev pub line_in : ℕ → ℕ → ℕ → ℕ
line_in k side column = lines_of Junction (approach_in side column) + (k - 1)

-- the place in the page's list of what a mark says
unfoldable pub place_of : ℕ → ℕ → ℕ → ℕ → ℕ
place_of mark first side column =
    cond (eqb mark of_movement) (sheet_count Junction * side + movement_place (movement_in side column) first)
    (cond (eqb mark of_approach) (sheet_count Junction * side + approach_place (approach_in side column) first)
    (cond (eqb mark of_group) (sheet_count Junction * side + (line_in first side column + group_in side column))
    (cond (eqb mark of_line) (sheet_count Junction * side + line_in first side column)
    (cond (eqb mark of_time) (first + side_times * side + column)
    (cond (eqb mark of_storage) (first + side + (column - first_left)) (first + column))))))

abbrev pub number_in : ℕ → ℕ → ℕ → ℕ
number_in row side column = place_of (mark_in row column) (first_of row) side column

-- the page -----------------------------------------------------------------------------------------------------------

-- a heading and the rows of the west, then of the east, then of the whole
abbrev pub part_rows : ℕ
part_rows = 1 + side_lines

abbrev pub row_count : ℕ
row_count = part_rows * side_count + (1 + whole_lines)

-- 0 and 1 for a side, 2 for the whole
abbrev pub part_of : ℕ → ℕ
part_of row = row / part_rows

-- 0 for a heading
abbrev pub line_of : ℕ → ℕ
line_of row = row % part_rows

-- a row of the page in the list of rows
abbrev pub form_row : ℕ → ℕ
form_row row = cond (ltb (part_of row) side_count) 0 side_lines + (line_of row - 1)
