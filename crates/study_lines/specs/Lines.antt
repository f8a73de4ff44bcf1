-- "Study file and listing": the line of a site, and that of a bad file.
use Rattle.std.specs.Prelude.{ℕ, ◌+◌, cond, List, [], ◌∷◌, ◌++◌, eqb, Result, Ok, Err}
use Rattle.answers.specs.Answers.{refusal_number}
use Rattle.answers.specs.declared.Refusal.{Refusal}
use Rattle.text.specs.Text.{ascii, number_then}
use Rattle.study_lines.specs.declared.Rating.{Rating}
use Rattle.study_lines.specs.declared.Refused.{Refused}

-- "one space between, a line feed after each line"
abbrev pub space : ℕ
space = 32

abbrev pub line_feed : ℕ
line_feed = 10

-- "letter 0–7", shown as A to H
abbrev pub letter_byte : ℕ → ℕ
letter_byte letter = 65 + letter

-- "as P, M or S": the picks 0, 1, 2
abbrev pub phasing_byte : ℕ → ℕ
phasing_byte pick = cond (eqb pick 0) 80 (cond (eqb pick 1) 77 83)

-- "Per site: number from 1, ICU in tenths, letter, picked phasing EB–WB then NB–SB as P, M or S."
unfoldable pub rated_line : ℕ → Rating → List ℕ
rated_line number r =
    number_then number space
    ++ number_then r.icu space
    ++ (letter_byte r.letter ∷ space ∷ phasing_byte r.first ∷ phasing_byte r.second ∷ line_feed ∷ [])

-- "R and refusal number"
abbrev pub refused_mark : ℕ
refused_mark = 82

-- "A refused site: number, R and refusal number, place."
unfoldable pub refused_line : ℕ → Refusal → ℕ → List ℕ
refused_line number why place =
    number_then number space ++ (refused_mark ∷ []) ++ number_then (refusal_number why) space ++ number_then place line_feed

abbrev pub line_of : ℕ → Result Rating Refused → List ℕ
line_of number (Ok r) = rated_line number r
line_of number (Err refused) = refused_line number refused.why refused.place

-- "A bad file gives only `file R6` and the place."
unfoldable pub file_line : ℕ → List ℕ
file_line place = ascii "file R6 " ++ number_then place line_feed
