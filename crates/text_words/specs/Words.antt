-- The words of a junction as text, one after the other. A title (EBL to SBR, EB to SB, junction), then names and values of its
-- entries: `EBL lanes 1 volume 100 lost-time 4s`.
use Rattle.std.specs.Prelude.{ℕ, ◌-◌, cond, not, List, get_or, set, ltb, Option, None, Some, is_some, Result, Ok, Err}
use Rattle.kinds.specs.Kinds.{kind_at}
use Rattle.text_values.specs.Values.{value_of}
use Rattle.text_values.specs.declared.Value.{Value}
use Rattle.text_values.specs.declared.Value.TheVariants.{Is, Not}
use Rattle.text_values.specs.declared.Trouble.{Trouble}
use Rattle.text_values.specs.declared.Trouble.TheVariants.{Unknown, NoTitle, NotOfTitle, Twice}
use Rattle.text_names.specs.Names.{title_count, row_of, has_kind, entry_in}
use Rattle.text_words.specs.Standing.{Standing}
use Rattle.text_words.specs.declared.Mistake.{Mistake}
use Rattle.text_words.specs.declared.State.{State}

-- the reader under a title, waiting for the value of an entry
abbrev pub standing : Option ℕ → Option ℕ → Standing
standing title wanted = record { title = title; wanted = wanted }

abbrev pub stands : Option ℕ → Option ℕ → Result Standing Mistake
stands title wanted = Ok (standing title wanted)

abbrev pub wrong : Trouble → ℕ → Result Standing Mistake
wrong why place = Err (record { why = why; place = place })

-- the name of a kind of entry under a title, where some entries are written already
unfoldable pub taken_kind : ℕ → ℕ → List (Option ℕ) → Option ℕ → Result Standing Mistake
taken_kind place kind places None = wrong NoTitle place
taken_kind place kind places (Some title) =
    cond (not (has_kind title kind)) (wrong NotOfTitle place)
    (cond (is_some (get_or places (entry_in title kind) None)) (wrong Twice place)
    (stands (Some title) (Some (entry_in title kind))))

-- the name in a row of the table of words, if the word stands there
unfoldable pub taken_name : ℕ → Option ℕ → List (Option ℕ) → Option ℕ → Result Standing Mistake
taken_name place None places title = wrong Unknown place
taken_name place (Some row) places title =
    cond (ltb row title_count) (stands (Some row) None) (taken_kind place (row - title_count) places title)

abbrev pub state : Result Standing Mistake → List ℕ → List (Option ℕ) → State
state reader entries places = record { reader = reader; entries = entries; places = places }

-- a value where one is due, or what is wrong with it
abbrev pub valued : Value → ℕ → Option ℕ → ℕ → State → State
valued (Is value) place title entry s = state (stands title None) (set s.entries entry value) (set s.places entry (Some place))
valued (Not why) place title entry s = state (wrong why place) s.entries s.places

-- a word where a value is due
unfoldable pub taken_value : ℕ → List ℕ → Option ℕ → ℕ → State → State
taken_value place word title entry s = valued (value_of (kind_at entry) word) place title entry s

-- the value of an entry where one is due, or a name
abbrev pub taken_for : Option ℕ → ℕ → List ℕ → Option ℕ → State → State
taken_for (Some entry) place word title s = taken_value place word title entry s
taken_for None place word title s = state (taken_name place (row_of word) s.places title) s.entries s.places

-- the first thing wrong stays
abbrev pub unless : {A : Type 0} → Result Standing Mistake → A → (Standing → A) → A
unless (Err mistake) old f = old
unless (Ok reader) old f = f reader

-- a word that begins at a place
unfoldable pub taken : ℕ → List ℕ → State → State
taken place word s = unless s.reader s (λ reader. taken_for reader.wanted place word reader.title s)
