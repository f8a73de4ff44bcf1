-- Calls on an open study, by any offices: what the study becomes and what is told of each; and of runs, what is an office's own.
use Rattle.std.specs.Prelude.{Bool, true, false, cond, ◌&&◌, List, [], ◌∷◌, ℕ, eqb}
use Rattle.answers.specs.declared.Answer.{Answer}
use Rattle.amend_sets.specs.Amend.{Change}
use Rattle.open_rules.specs.Open.{Study, study, lowest_free, add_answer, added, added_place, amend_site_answer, amended_blocks, read_answer, read_sheet}

-- a call, its office first, with what the office lends beside the study: an add entries and a number for the place, a reading a sheet
pub data Call : Type 0 where
  Add : ℕ → List ℕ → ℕ → Call
  Amend : ℕ → ℕ → ℕ → ℕ → Call
  Read : ℕ → ℕ → List ℕ → Call

abbrev pub caller : Call → ℕ
caller (Add office e before) = office
caller (Amend office s i v) = office
caller (Read office s d) = office

abbrev pub is_add : Call → Bool
is_add (Add office e before) = true
is_add (Amend office s i v) = false
is_add (Read office s d) = false

-- the study afterwards
abbrev pub next : Study → Call → Study
next S (Add office e before) = added S office e
next S (Amend office s i v) = study S.owners (amended_blocks S office s i v)
next S (Read office s d) = S

-- what the office is told: the answer, and what stands afterwards in what it lent beside the study
pub record Output : Type 0 where
  pub answer : Answer
  pub lent : List ℕ

abbrev pub output : Study → Call → Output
output S (Add office e before) = record { answer = add_answer S office e; lent = added_place S office e before ∷ [] }
output S (Amend office s i v) = record { answer = amend_site_answer S office s i v; lent = [] }
output S (Read office s d) = record { answer = read_answer S office s d; lent = read_sheet S office s d }

-- whether a call is office o's
abbrev pub is_of : ℕ → Call → Bool
is_of o c = eqb (caller c) o

-- of a run by all offices: the calls of office o ..
unfoldable pub own : ℕ → List Call → List Call
own o [] = []
own o (c ∷ run) = cond (is_of o c) (c ∷ own o run) (own o run)

-- .. and "only, when it adds, whether a free place is left and which is the lowest"
unfoldable pub revealed : ℕ → List Call → Study → List ℕ
revealed o [] S = []
revealed o (c ∷ run) S =
    cond (is_of o c && is_add c) (lowest_free S.owners ∷ revealed o run (next S c)) (revealed o run (next S c))

-- the changes that office o asks for of its site at place s
abbrev pub change_in : ℕ → ℕ → Call → List Change → List Change
change_in o s (Add office e before) later = later
change_in o s (Amend office p i v) later = cond (eqb office o && eqb p s) (record { entry = i; value = v } ∷ later) later
change_in o s (Read office p d) later = later

unfoldable pub changes_of : ℕ → ℕ → List Call → List Change
changes_of o s [] = []
changes_of o s (c ∷ run) = change_in o s c (changes_of o s run)
