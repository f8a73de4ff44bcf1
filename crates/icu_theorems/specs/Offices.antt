-- Runs of calls of the library on an open study: what each call may answer and leave, and what an office hears of a run.
use Rattle.std.specs.Prelude.{◌≡◌, cond, List, [], ◌∷◌, ℕ, length, get_or}
use Rattle.open_rules.specs.Open.{Study}
use Rattle.open_theorems.specs.Calls.{Call, Add, Amend, Read, is_of}
use Rattle.icu.specs.declared.IcuAnswer.{IcuAnswer}
use Rattle.icu.specs.Calls.{OpenAddAllows, OpenAmendAllows, OpenReadAllows}

-- what one call on a study S may answer, and leave of the study and in what is lent beside it: the place's number, nothing, a sheet
abbrev pub OpenAllows : Study → Call → IcuAnswer → Study → List ℕ → Type 0
OpenAllows S (Add office e before) said left lent = OpenAddAllows S office e before said left (get_or lent 0 0) × (length lent ≡ 1)
OpenAllows S (Amend office s i v) said left lent =
    OpenAmendAllows S office s i v said left.blocks × (left.owners ≡ S.owners) × (lent ≡ [])
OpenAllows S (Read office s d) said left lent = OpenReadAllows S office s d said lent × (left ≡ S)

-- what an office hears of a call of its own
pub record Heard : Type 0 where
  pub said : IcuAnswer
  pub lent : List ℕ

-- one call, what office o hears from it on, and what follows on the study that it leaves
pub record OpenStep (o : ℕ) (S : Study) (c : Call) (heard : List Heard) (rest : Study → List Heard → Type 0) : Type 0 where
  pub said : IcuAnswer
  pub left : Study
  pub lent : List ℕ
  pub later : List Heard
  pub allowed : OpenAllows S c said left lent
  pub hears : heard ≡ cond (is_of o c) (record { said = said; lent = lent } ∷ later) later
  pub goes_on : rest left later

-- a run of calls by any offices, each on the study that the one before it left, whatever each is answered; and what office o hears
unfoldable pub OpenRun : ℕ → List Call → Study → Study → List Heard → Type 0
OpenRun o [] S end heard = (end ≡ S) × (heard ≡ [])
OpenRun o (c ∷ run) S end heard = OpenStep o S c heard (λ left later. OpenRun o run left end later)
