-- All the texts of `icustudy make`: what the whole comes to, and what the calls leave that take text after text.
use Rattle.std.specs.Prelude.{ℕ, ◌+◌, Bool, true, false, cond, List, [], ◌∷◌, ◌++◌, take, Some, None}
use Rattle.study.specs.Study.{file_of}
use Rattle.text_scan.specs.Scanning.{parsed}
use Rattle.program_outcome.specs.Outcome.{Input, Outcome, writing, saying}
use Rattle.program_make.specs.Make.{text_says, text_adds, study_of}

-- a text's name, what reading its file came to, and the area that it was read into
pub record Typed : Type 0 where
  pub name : List ℕ
  pub input : Input
  pub area : List ℕ

abbrev pub says_of : Typed → List ℕ
says_of t = text_says t.input t.name t.area

abbrev pub typed_in : Input → List ℕ → List ℕ
typed_in (Some size) area = (parsed (take size area)).entries
typed_in None area = []

abbrev pub entries_of : Typed → List ℕ
entries_of t = typed_in t.input t.area

abbrev pub is_nothing : List ℕ → Bool
is_nothing [] = true
is_nothing (byte ∷ bytes) = false

-- the study of the entries so far and of the texts' in order; or what is said of the first text that is not well
unfoldable pub made : List ℕ → List Typed → Outcome
made entries [] = writing (file_of entries)
made entries (t ∷ texts) = cond (is_nothing (says_of t)) (made (entries ++ entries_of t) texts) (saying (says_of t))

-- the lent entries, how many sites were added, and what was said last: no text is taken after something is said
pub record Making : Type 0 where
  pub all : List ℕ
  pub sites : ℕ
  pub says : List ℕ

abbrev pub step : Making → Typed → Making
step m t =
    cond (is_nothing m.says) (record { all = text_adds t.input t.area m.sites m.all; sites = m.sites + 1; says = says_of t }) m

unfoldable pub steps : Making → List Typed → Making
steps m [] = m
steps m (t ∷ texts) = steps (step m t) texts

-- at the end the study is written, if nothing was said
abbrev pub finished : Making → Outcome
finished m = cond (is_nothing m.says) (writing (study_of m.sites m.all)) (saying m.says)
