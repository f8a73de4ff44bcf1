-- What the writing of lines leans on: how long a line is at most, and which letters there are.
use Rattle.std.specs.Prelude.{ℕ, ◌+◌, ◌*◌, ◌≤◌, Result, Ok, Err}
use Rattle.text.specs.Text.{digit_most}
use Rattle.study_lines.specs.declared.Rating.{Rating}
use Rattle.study_lines.specs.declared.Refused.{Refused}

-- three numbers, each with a byte past it, and a byte
abbrev pub line_most : ℕ
line_most = 3 * (digit_most + 1) + 1

-- "letter 0–7"
abbrev pub letter_most : ℕ
letter_most = 7

-- the letter, if there is one, is one of those
abbrev pub Lettered : Result Rating Refused → Type 0
Lettered (Ok r) = r.letter ≤ letter_most
Lettered (Err refused) = Unit {0}
