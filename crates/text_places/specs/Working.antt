-- How long the words of a place are at most: no public promise says it.
use Rattle.std.specs.Prelude.{ℕ, ◌+◌, ◌*◌}
use Rattle.text.specs.Text.{digit_most}

-- "line ", ", column " and ": ", and two numbers
abbrev pub place_most : ℕ
place_most = 2 * digit_most + 16
