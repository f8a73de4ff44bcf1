-- How long the text of a value is at most: no public promise says it.
use Rattle.std.specs.Prelude.{ℕ}
use Rattle.text_times.specs.Working.{time_most}

-- no number is longer than the longest time
abbrev pub value_most : ℕ
value_most = time_most
