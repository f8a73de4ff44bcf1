-- Runs of calls by their definitions: the theorems speak of runs by what each call may answer and leave.
use Rattle.std.specs.Prelude.{cond, List, [], ◌∷◌, ℕ}
use Rattle.open_rules.specs.Open.{Study}
use Rattle.open_theorems.specs.Calls.{Call, Output, is_of, next, output}

-- the study after a run of calls
unfoldable pub after : List Call → Study → Study
after [] S = S
after (c ∷ run) S = after run (next S c)

-- what office o is told in a run
unfoldable pub outputs : ℕ → List Call → Study → List Output
outputs o [] S = []
outputs o (c ∷ run) S = cond (is_of o c) (output S c ∷ outputs o run (next S c)) (outputs o run (next S c))
