-- The words of a junction's text: the titles, which name a movement, an approach or the junction, and the kinds of their entries.
use Rattle.std.specs.Prelude.{ℕ, zero, suc, ◌+◌, ◌-◌, ◌*◌, ◌/◌, ◌%◌, Bool, true, false, cond, ◌&&◌, List, [], ◌∷◌, ◌++◌, length, get_or, eqb, ltb, leb}
use Rattle.std.specs.Prelude.{Option, Some, None, option_and_then}
use Rattle.std.specs.Option.{option_or}
use Prim.Native.String.{String}
use Rattle.text.specs.Text.{joined}
use Rattle.layout.specs.Entries.{approach_count, movement_count, movement_entries, approaches_from, approach_entries, cycle_entry, entry_count}
use Rattle.text_names.specs.declared.Class.{Class}

-- what parts the words of a text, and its lines
abbrev pub space : ℕ
space = 32

abbrev pub line_feed : ℕ
line_feed = 10

-- the titles, in the entries' order; then the kinds of the entries that stand under each
abbrev pub rows : List String
rows =
    "EBL             " ∷
    "EBT             " ∷
    "EBR             " ∷
    "WBL             " ∷
    "WBT             " ∷
    "WBR             " ∷
    "NBL             " ∷
    "NBT             " ∷
    "NBR             " ∷
    "SBL             " ∷
    "SBT             " ∷
    "SBR             " ∷
    "EB              " ∷
    "WB              " ∷
    "NB              " ∷
    "SB              " ∷
    "junction        " ∷
    "lanes           " ∷
    "volume          " ∷
    "ideal-flow      " ∷
    "lost-time       " ∷
    "minimum-green   " ∷
    "lane-factor     " ∷
    "shared-lane     " ∷
    "pedestrians     " ∷
    "push-button     " ∷
    "pedestrian-time " ∷
    "free-right      " ∷
    "cycle           " ∷
    []

abbrev pub word_width : ℕ
word_width = 16

-- the titles: each movement's, each approach's, the junction's
abbrev pub title_count : ℕ
title_count = movement_count + approach_count + 1

-- the junction has the cycle alone
abbrev pub junction_entries : ℕ
junction_entries = entry_count - cycle_entry

-- the kinds of entries, which stand after the titles in the table
abbrev pub kind_count : ℕ
kind_count = movement_entries + approach_entries + junction_entries

abbrev pub word_count : ℕ
word_count = title_count + kind_count

unfoldable pub word_table : List ℕ
word_table = joined rows

-- byte i of a row
abbrev pub word_byte : ℕ → ℕ → ℕ
word_byte row i = get_or word_table (word_width * row + i) 0

-- the first n bytes of a row, without blanks
unfoldable pub word_in : ℕ → ℕ → List ℕ
word_in row zero = []
word_in row (suc n) = word_in row n ++ cond (eqb (word_byte row n) space) [] (word_byte row n ∷ [])

-- the word in a row
abbrev pub word_of : ℕ → List ℕ
word_of row = word_in row word_width

-- byte i of a word, blanks past its end
abbrev pub padded : List ℕ → ℕ → ℕ
padded word i = get_or word i space

-- the first n bytes of a word are those of the row
unfoldable pub agrees : List ℕ → ℕ → ℕ → Bool
agrees word row zero = true
agrees word row (suc n) = cond (agrees word row n) (eqb (padded word n) (word_byte row n)) false

-- a word is the row's
unfoldable pub is_word : List ℕ → ℕ → Bool
is_word word row = cond (leb (length word) word_width) (agrees word row word_width) false

-- the first of the first n rows that a word is, if it is one of them
unfoldable pub found_in : List ℕ → ℕ → Option ℕ
found_in word zero = None
found_in word (suc n) = option_or (found_in word n) (cond (is_word word n) (Some n) None)

abbrev pub row_of : List ℕ → Option ℕ
row_of word = found_in word word_count

-- the classes of titles, a row for each: its first title, its first entry, how many entries each of its titles has, its first kind
abbrev pub movements : Class
movements = record { title = 0; entry = 0; width = movement_entries; kind = 0 }

abbrev pub approaches : Class
approaches = record { title = movement_count; entry = approaches_from; width = approach_entries; kind = movement_entries }

abbrev pub junction : Class
junction = record { title = movement_count + approach_count; entry = cycle_entry; width = junction_entries; kind = movement_entries + approach_entries }

-- the class of a title, and that of the title under which an entry stands
unfoldable pub class_of : ℕ → Class
class_of title = cond (ltb title approaches.title) movements (cond (ltb title junction.title) approaches junction)

unfoldable pub class_at : ℕ → Class
class_at entry = cond (ltb entry approaches.entry) movements (cond (ltb entry junction.entry) approaches junction)

-- whether the titles of a class have entries of that kind
abbrev pub has_kind_in : Class → ℕ → Bool
has_kind_in class kind = leb class.kind kind && ltb kind (class.kind + class.width)

-- the entry of that kind under a title of the class
abbrev pub entry_under : Class → ℕ → ℕ → ℕ
entry_under class title kind = class.entry + class.width * (title - class.title) + (kind - class.kind)

abbrev pub has_kind : ℕ → ℕ → Bool
has_kind title kind = has_kind_in (class_of title) kind

abbrev pub entry_in : ℕ → ℕ → ℕ
entry_in title kind = entry_under (class_of title) title kind

-- and back: an entry's number among those of its title, its title and its kind
abbrev pub number_under : Class → ℕ → ℕ
number_under class entry = (entry - class.entry) % class.width

abbrev pub title_under : Class → ℕ → ℕ
title_under class entry = class.title + (entry - class.entry) / class.width

abbrev pub title_of : ℕ → ℕ
title_of entry = title_under (class_at entry) entry

abbrev pub kind_of : ℕ → ℕ
kind_of entry = (class_at entry).kind + number_under (class_at entry) entry

-- the first and the last entry of a title
abbrev pub is_first : ℕ → Bool
is_first entry = eqb (number_under (class_at entry) entry) 0

abbrev pub is_last : ℕ → Bool
is_last entry = eqb (number_under (class_at entry) entry + 1) (class_at entry).width

-- the entry of a title and of the kind in a row of the table, if there is one
unfoldable pub entry_for : ℕ → ℕ → Option ℕ
entry_for title row =
    cond (leb title_count title) None
    (cond (ltb row title_count) None
    (cond (has_kind title (row - title_count)) (Some (entry_in title (row - title_count))) None))

-- the entry that two words name, if they name one
unfoldable pub entry_named : List ℕ → List ℕ → Option ℕ
entry_named title kind = option_and_then (λ named. option_and_then (entry_for named) (row_of kind)) (row_of title)
