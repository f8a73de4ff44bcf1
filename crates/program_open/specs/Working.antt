-- What a call leaves that takes a study or says why there is none: no public promise says it.
use Rattle.std.specs.Prelude.{ℕ, ◌≡◌, List, Result}
use Rattle.open_rules.specs.Open.{Study, study}
use Rattle.program_outcome.specs.Outcome.{Tells}
use Rattle.program_open.specs.declared.OpenStudy.{OpenStudy}

-- the study whose owners and blocks these are
abbrev pub held : OpenStudy → Study
held s = study s.owners s.blocks

-- a text is said, or the study is the one that was to be taken
abbrev pub Taken : (text said said' : List ℕ) → Study → Result OpenStudy ℕ → Type 0
Taken text said said' wanted result = Tells text said said' (λ s. held s ≡ wanted) result
