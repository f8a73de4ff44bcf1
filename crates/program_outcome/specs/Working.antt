-- The lengths where one text is given or a run stops, and how long a sentence and what stands before it are at most: no public promise says it.
use Rattle.std.specs.Prelude.{ℕ, ◌+◌, Result, Ok, Err}
use Rattle.program_outcome.specs.declared.Lengths.{Lengths}
use Rattle.program_outcome.specs.Outcome.{word_most}

-- an argument and ": "
abbrev pub opening_most : ℕ
opening_most = word_most + 2

abbrev pub remark_most : ℕ
remark_most = 128

abbrev pub only_said : ℕ → Lengths
only_said size = record { prints = 0; writes = 0; says = size }

abbrev pub only_printed : ℕ → Lengths
only_printed size = record { prints = size; writes = 0; says = 0 }

abbrev pub only_written : ℕ → Lengths
only_written size = record { prints = 0; writes = size; says = 0 }

-- where a run stops, its error is how many bytes are said
abbrev pub lengths_of : Result Lengths ℕ → Lengths
lengths_of (Ok lengths) = lengths
lengths_of (Err size) = only_said size
