-- "Study file and listing": the places and fields of a study file that no format changes.
use Rattle.std.specs.Prelude.{ℕ, ◌+◌, ◌*◌, List, [], ◌∷◌, Bool, true, false, ◌&&◌, not, length, ltb, eqb}
use Rattle.study_numbers.specs.Numbers.{number_bytes, number_at}
use Rattle.answers.specs.Answers.{◌then◌, refuse_if}
use Rattle.answers.specs.declared.Refusal.TheVariants.{Size, File}
use Rattle.answers.specs.declared.Answer.{Answer}

-- "four bytes open the file, then k": the opening is as long as a number
abbrev pub count_place : ℕ
count_place = number_bytes

abbrev pub sites_of : List ℕ → ℕ
sites_of file = number_at file count_place

-- "then k offsets"
abbrev pub offsets_place : ℕ
offsets_place = count_place + number_bytes

-- the place of offset j
abbrev pub offset_place : ℕ → ℕ
offset_place j = offsets_place + number_bytes * j

-- whether bytes begin with others
unfoldable pub starts_with : List ℕ → List ℕ → Bool
starts_with file [] = true
starts_with [] (byte ∷ bytes) = false
starts_with (first ∷ file) (byte ∷ bytes) = eqb first byte && starts_with file bytes

-- "the file's length if it is short, a field cut short included"
abbrev pub whole : List ℕ → ℕ → Answer
whole file at = refuse_if (ltb (length file) (at + number_bytes)) File (length file)

-- or else "the first byte of the first wrong field"
abbrev pub field : List ℕ → ℕ → Bool → Answer
field file at wrong = whole file at then refuse_if wrong File at

-- "4 for too little room"
abbrev pub room_place : ℕ
room_place = 4

-- "entries are not .. numbers"
abbrev pub size_answer : ℕ → ℕ → Answer
size_answer wanted size = refuse_if (not (eqb size wanted)) Size 0
