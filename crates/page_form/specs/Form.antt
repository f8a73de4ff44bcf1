-- The form of the printed worksheet, over the kind of sheet: its rows, and which cells stand in them: a sheet's, and those beside it.
use Rattle.std.specs.Prelude.{ℕ, ◌+◌, ◌*◌, ◌-◌, ◌/◌, ◌%◌, cond, List, [], ◌∷◌, get_or, ltb}
use Prim.Native.String.{String}
use Rattle.text.specs.Text.{joined}
use Rattle.layout.specs.Entries.{approach_count, group_count, movement_entries, approaches_from, approach_entries, cycle_entry}
use Rattle.layout.specs.declared.Worksheet.{Worksheet}
use Rattle.layout.specs.declared.Worksheet.TheVariants.{Junction, Point}
use Rattle.layout.specs.Sheet.{line_count, lines_from, pair_count, pair_cells, pairs_from, last_cells, last_from, combined_cell, sheet_count, beside_numbers}
use Rattle.page_form.specs.declared.Counted.{Counted}
use Rattle.page_form.specs.declared.Counted.TheVariants.{Rows, Cells}
use Rattle.page_form.specs.declared.Section.{Section}

-- each row's number in the rules (or L, T, R for a movement's entries, A for an approach's, P for a pair, J for the
-- junction), its name, its line in the book, and its unit; the book numbers a single point's lines anew, and has none where `-` stands
abbrev pub rows : Worksheet → List String
rows Junction =
    "no entry                     book :" ∷
    "L  lanes                        2 n" ∷
    "L  volume                       4 v" ∷
    "L  ideal flow                   9 v" ∷
    "L  lost time                   10 s" ∷
    "L  minimum green               11 s" ∷
    "L  lane factor                 15 F" ∷
    "T  lanes                        2 n" ∷
    "T  volume                       4 v" ∷
    "T  ideal flow                   9 v" ∷
    "T  lost time                   10 s" ∷
    "T  minimum green               11 s" ∷
    "T  lane factor                 15 F" ∷
    "R  lanes                        2 n" ∷
    "R  volume                       4 v" ∷
    "R  ideal flow                   9 v" ∷
    "R  lost time                   10 s" ∷
    "R  minimum green               11 s" ∷
    "R  lane factor                 15 F" ∷
    "A  shared lane                  3 n" ∷
    "A  pedestrians                  5 p" ∷
    "A  push button                  6 n" ∷
    "A  pedestrian time              7 s" ∷
    "A  free right                   8 n" ∷
    "J  cycle, in seconds           12 n" ∷
    "no line                      book :" ∷
    "1  volume, left                13 v" ∷
    "2  volume, through             13 v" ∷
    "3  volume, right               13 v" ∷
    "4  turning factor              16 f" ∷
    "5  flow, left                  17 V" ∷
    "6  flow, through               17 V" ∷
    "7  flow, right                 17 V" ∷
    "8  flow, separate through      18 V" ∷
    "9  flow, separate left         18 V" ∷
    "10 interference, right         19 s" ∷
    "11 interference, through       19 s" ∷
    "12 pedestrian frequency        20 f" ∷
    "13 reference, left             22 s" ∷
    "14 reference, through          22 s" ∷
    "15 reference, right            22 s" ∷
    "16 adjusted, left              23 s" ∷
    "17 adjusted, through           23 s" ∷
    "18 adjusted, right             23 s" ∷
    "19 volume of left lane         25 v" ∷
    "20 lefts in left lane          26 f" ∷
    "21 left equivalents            27 f" ∷
    "22 saturation A                29 V" ∷
    "23 permitted option A          30 s" ∷
    "24 permitted option B       32-33 s" ∷
    "25 permitted reference         34 s" ∷
    "26 permitted adjusted          35 s" ∷
    "27 split reference          36-38 s" ∷
    "28 split adjusted              39 s" ∷
    "no pair                      book :" ∷
    "P  protected                   40 s" ∷
    "P  permitted                   41 s" ∷
    "P  split                       42 s" ∷
    "P  picked                      43 *" ∷
    "no junction                  book :" ∷
    "R  right turns              45-50 s" ∷
    "J  combined                    44 s" ∷
    "J  required                    51 s" ∷
    "J  ICU                         51 %" ∷
    "J  level of service            52 A" ∷
    "no beside the lines          book :" ∷
    "23 own volume of left lane     25 v" ∷
    "23 own left equivalents        27 f" ∷
    "23 own saturation A            29 V" ∷
    "R  cross through               47 s" ∷
    "R  oncoming left               49 s" ∷
    []
rows Point =
    "no entry                     book :" ∷
    "L  lanes                        2 n" ∷
    "L  volume                       3 v" ∷
    "L  ideal flow                   8 v" ∷
    "L  lost time                    9 s" ∷
    "L  minimum green               10 s" ∷
    "L  lane factor                 13 F" ∷
    "T  lanes                        2 n" ∷
    "T  volume                       3 v" ∷
    "T  ideal flow                   8 v" ∷
    "T  lost time                    9 s" ∷
    "T  minimum green               10 s" ∷
    "T  lane factor                 13 F" ∷
    "R  lanes                        2 n" ∷
    "R  volume                       3 v" ∷
    "R  ideal flow                   8 v" ∷
    "R  lost time                    9 s" ∷
    "R  minimum green               10 s" ∷
    "R  lane factor                 13 F" ∷
    "A  shared lane                  - n" ∷
    "A  pedestrians                  4 p" ∷
    "A  push button                  5 n" ∷
    "A  pedestrian time              6 s" ∷
    "A  free right                   7 n" ∷
    "J  cycle, in seconds           11 n" ∷
    "no line                      book :" ∷
    "1  volume, left                12 v" ∷
    "2  volume, through             12 v" ∷
    "3  volume, right               12 v" ∷
    "4  turning factor              14 f" ∷
    "5  flow, left                  15 V" ∷
    "6  flow, through               15 V" ∷
    "7  flow, right                 15 V" ∷
    "8  flow, separate through       - V" ∷
    "9  flow, separate left          - V" ∷
    "10 interference, right         16 s" ∷
    "11 interference, through       16 s" ∷
    "12 pedestrian frequency        17 f" ∷
    "13 reference, left             18 s" ∷
    "14 reference, through          18 s" ∷
    "15 reference, right            18 s" ∷
    "16 adjusted, left              19 s" ∷
    "17 adjusted, through           19 s" ∷
    "18 adjusted, right             19 s" ∷
    "no pair                      book :" ∷
    "P  protected                   20 s" ∷
    "no junction                  book :" ∷
    "R  right turns              22-27 s" ∷
    "J  combined                    21 s" ∷
    "J  required                    28 s" ∷
    "J  ICU                         28 %" ∷
    "J  level of service            29 A" ∷
    "no beside the lines          book :" ∷
    "R  cross through               24 s" ∷
    "R  oncoming left               26 s" ∷
    []

abbrev pub title_width : ℕ
title_width = 35

unfoldable pub titles : Worksheet → List ℕ
titles k = joined (rows k)

abbrev pub title_byte : Worksheet → ℕ → ℕ
title_byte k i = get_or (titles k) i 0

-- a row's unit is its title's last byte
abbrev pub unit_of : Worksheet → ℕ → ℕ
unit_of k row = title_byte k (title_width * row + (title_width - 1))

-- sections -----------------------------------------------------------------------------------------------------------

infix 40 ◌from◌by◌columns◌
abbrev pub ◌from◌by◌columns◌ : ℕ → ℕ → ℕ → ℕ → Section
row from cell by step columns wide = record { row = row; cell = cell; step = step; columns = wide }

-- the row or the cell past a section's: the cells of a column stand one after the other, a row each
abbrev pub end_of : Counted → Section → ℕ
end_of Rows s = s.row + s.step
end_of Cells s = s.cell + s.step * s.columns

-- a heading is a row, over the entries, the lines, the pairs, the last cells and what stands beside them
abbrev pub headed : ℕ → ℕ
headed row = row + 1

-- The sheet is the entries, "28 lines of each approach, 4 cells of each pair, the last 8"; of a single point, "lines 1–18 of each
-- approach, two protected totals and the last eight".
-- The sections of rows: the first row, the cell in its first column, the step to the next column's, and the columns.
abbrev pub movements : Section
movements = headed 0 from 0 by (group_count * movement_entries) columns approach_count

abbrev pub approaches : Section
approaches = end_of Rows movements from approaches_from by approach_entries columns approach_count

abbrev pub cycle : Section
cycle = end_of Rows approaches from cycle_entry by 1 columns 1

abbrev pub lines : Worksheet → Section
lines k = headed (end_of Rows cycle) from lines_from by line_count k columns approach_count

abbrev pub pairs : Worksheet → Section
pairs k = headed (end_of Rows (lines k)) from pairs_from k by pair_cells k columns pair_count

abbrev pub rights : Worksheet → Section
rights k = headed (end_of Rows (pairs k)) from last_from k by 1 columns approach_count

abbrev pub whole : Worksheet → Section
whole k = end_of Rows (rights k) from combined_cell k by (last_cells - approach_count) columns 1

-- what is worked by hand beside the sheet's cells, past them
abbrev pub beside : Worksheet → Section
beside k = headed (end_of Rows (whole k)) from sheet_count k by beside_numbers k columns approach_count

abbrev pub row_count : Worksheet → ℕ
row_count k = end_of Rows (beside k)

-- the cells of a page: a sheet's, and those beside it
abbrev pub shown_count : Worksheet → ℕ
shown_count k = end_of Cells (beside k)

-- the first section that has the row or the cell i before its end, else the last
unfoldable pub section_by : Worksheet → Counted → ℕ → Section
section_by k counted i =
    cond (ltb i (end_of counted movements)) movements
    (cond (ltb i (end_of counted approaches)) approaches
    (cond (ltb i (end_of counted cycle)) cycle
    (cond (ltb i (end_of counted (lines k))) (lines k)
    (cond (ltb i (end_of counted (pairs k))) (pairs k)
    (cond (ltb i (end_of counted (rights k))) (rights k)
    (cond (ltb i (end_of counted (whole k))) (whole k) (beside k)))))))

-- of a row; a heading goes with the rows under it
abbrev pub section_at : Worksheet → ℕ → Section
section_at k row = section_by k Rows row

-- and of a cell
abbrev pub section_of : Worksheet → ℕ → Section
section_of k cell = section_by k Cells cell

-- the cell in a column of a row
abbrev pub cell_in : Worksheet → ℕ → ℕ → ℕ
cell_in k row column = (section_at k row).cell + (row - (section_at k row).row) + (section_at k row).step * column

-- the row and the column of a cell
abbrev pub row_of : Worksheet → ℕ → ℕ
row_of k cell = (section_of k cell).row + (cell - (section_of k cell).cell) % (section_of k cell).step

abbrev pub column_of : Worksheet → ℕ → ℕ
column_of k cell = (cell - (section_of k cell).cell) / (section_of k cell).step
