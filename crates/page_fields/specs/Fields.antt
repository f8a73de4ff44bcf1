-- A field of the printed page: a number with its decimals, or a text, at the field's right end. Places count from the right.
use Rattle.std.specs.Prelude.{ℕ, zero, suc, ◌+◌, ◌*◌, ◌-◌, ◌/◌, ◌%◌, min, cond, ◌&&◌, ◌||◌, List, [], ◌∷◌, get_or, eqb, ltb}
use Rattle.text.specs.Text.{digit, digit_most, joined}
use Rattle.units.specs.Unit.{flow_decimals}
use Rattle.layout.specs.Entries.{approach_count}
use Rattle.layout.specs.Sheet.{BLANK, pair_count, pick_no}

-- room for every digit of a u32 and the point
abbrev pub field_width : ℕ
field_width = digit_most + 1

-- the place at its left end
abbrev pub last_place : ℕ
last_place = field_width - 1

abbrev pub space : ℕ
space = 32

abbrev pub point : ℕ
point = 46

-- numbers ------------------------------------------------------------------------------------------------------------

-- a number without its last digits
unfoldable pub dropped : ℕ → ℕ → ℕ
dropped number zero = number
dropped number (suc n) = dropped number n / 10

-- the digit that has that many after it; a blank before the first, but at least so many digits and one are shown
unfoldable pub digit_byte : ℕ → ℕ → ℕ → ℕ
digit_byte number decimals place =
    cond (ltb decimals place && eqb (dropped number place) 0) space (digit (dropped number place % 10))

-- place p of a number with decimals
unfoldable pub number_byte : ℕ → ℕ → ℕ → ℕ
number_byte number decimals p =
    cond (eqb decimals 0 || ltb p decimals) (digit_byte number decimals p)
    (cond (eqb p decimals) point (digit_byte number decimals (p - 1)))

-- the bytes of the units that are not whole numbers: s, f, F, V, %, *, A and : (a heading). What is counted, and the ideal flow, which is
-- an entry, are whole vehicles per hour, v; what lanes carry has decimals, V.
abbrev pub seconds : ℕ
seconds = 115

abbrev pub factor : ℕ
factor = 102

abbrev pub measured : ℕ
measured = 70

abbrev pub carried : ℕ
carried = 86

abbrev pub percent : ℕ
percent = 37

abbrev pub pick : ℕ
pick = 42

abbrev pub letter : ℕ
letter = 65

abbrev pub heading : ℕ
heading = 58

-- times are ms and shown in seconds, factors and shares ten-thousandths, a measured lane factor thousandths, flows parts of a vehicle per
-- hour, the ICU tenths of a percent
abbrev pub decimals_of : ℕ → ℕ
decimals_of unit =
    cond (eqb unit seconds) 3
    (cond (eqb unit factor) 4 (cond (eqb unit measured) 3 (cond (eqb unit carried) flow_decimals (cond (eqb unit percent) 1 0))))

-- texts --------------------------------------------------------------------------------------------------------------

-- "NA for BLANK"; then the picks, the approaches, the pairs, what stands for a cell where there is no sheet, and for a lane factor that was not
-- measured, and nothing
unfoldable pub fields : List ℕ
fields =
    joined (
    "         NA" ∷
    "  protected" ∷
    "  permitted" ∷
    "      split" ∷
    "         EB" ∷
    "         WB" ∷
    "         NB" ∷
    "         SB" ∷
    "      EB-WB" ∷
    "      NB-SB" ∷
    "       none" ∷
    "      table" ∷
    "           " ∷
    [])

-- where the texts of each sort begin
abbrev pub not_allowed : ℕ
not_allowed = 0

abbrev pub pick_names : ℕ
pick_names = not_allowed + 1

abbrev pub approach_names : ℕ
approach_names = pick_names + pick_no

abbrev pub pair_names : ℕ
pair_names = approach_names + approach_count

abbrev pub no_sheet : ℕ
no_sheet = pair_names + pair_count

abbrev pub from_table : ℕ
from_table = no_sheet + 1

abbrev pub no_name : ℕ
no_name = from_table + 1

-- place p of one of them
abbrev pub field_text : ℕ → ℕ → ℕ
field_text field p = get_or fields (field_width * field + (last_place - p)) 0

-- the name of a pick: protected, permitted, split
abbrev pub pick_field : ℕ → ℕ
pick_field value = pick_names + min value (pick_no - 1)

-- a column's name: an approach, a pair, or none for the junction
abbrev pub column_field : ℕ → ℕ → ℕ
column_field columns column =
    cond (eqb columns approach_count) (approach_names + column % approach_count)
    (cond (eqb columns pair_count) (pair_names + column % pair_count) no_name)

-- cells --------------------------------------------------------------------------------------------------------------

-- A to H
abbrev pub letter_count : ℕ
letter_count = 8

-- place p of a cell's value, by its unit
unfoldable pub shown : ℕ → ℕ → ℕ → ℕ
shown unit value p =
    cond (eqb unit pick) (field_text (pick_field value) p)
    (cond (eqb unit letter) (cond (eqb p 0) (letter + value % letter_count) space)
    (cond (eqb unit seconds && eqb value BLANK) (field_text not_allowed p)
    (cond (eqb unit measured && eqb value 0) (field_text from_table p)
    (number_byte value (decimals_of unit) p))))
