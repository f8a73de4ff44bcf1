-- How long each saying is at most: no public promise says it.
use Rattle.std.specs.Prelude.{ℕ, ◌+◌}
use Rattle.text.specs.Text.{digit_most}
use Rattle.text_values.specs.Working.{value_most}

-- a value and " or "
abbrev pub apart_most : ℕ
apart_most = value_most + 4

-- two values, " to " between them, and the end of the line
abbrev pub span_most : ℕ
span_most = value_most + 4 + value_most + 1

abbrev pub limits_most : ℕ
limits_most = apart_most + span_most

-- " is outside " and the limits
abbrev pub outside_most : ℕ
outside_most = 12 + limits_most

-- the longest sentence of a refusal, a shared lane's, has 109; the rest is spare
abbrev pub why_most : ℕ
why_most = 112

-- "R", the refusal's number and ": " before it
abbrev pub refusal_most : ℕ
refusal_most = digit_most + 3 + why_most
