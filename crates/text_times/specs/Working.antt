-- How long the text of a time is at most: no public promise says it.
use Rattle.std.specs.Prelude.{ℕ, ◌+◌}
use Rattle.text.specs.Text.{digit_most}

-- a point and three digits
abbrev pub fraction_most : ℕ
fraction_most = 4

-- whole ones, and what stands past them
abbrev pub decimal_most : ℕ
decimal_most = digit_most + fraction_most

-- and the unit
abbrev pub time_most : ℕ
time_most = decimal_most + 1
