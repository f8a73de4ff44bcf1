-- What amendments of a sheet of kind k answer and leave: changes that are made together, the one change of an amendment, and a run of
-- amendments. "Amendments work as before" on a single point's, Request Seven.
use Rattle.std.specs.Prelude.{Bool, false, ◌||◌, List, [], ◌∷◌, ℕ, ltb, set, take}
use Rattle.layout.specs.declared.Worksheet.{Worksheet}
use Rattle.layout.specs.Entries.{cycle_entry, entry_count}
use Rattle.answers.specs.Answers.{◌then◌, refuse_if, left_by}
use Rattle.answers.specs.declared.Refusal.TheVariants.{Entry}
use Rattle.answers.specs.declared.Answer.{Answer}
use Rattle.answers.specs.declared.Answer.TheVariants.{Accepted}
use Rattle.entries.specs.Judging.{judged_for}
use Rattle.procedure.specs.Sheet.{sheet_for}
use Rattle.sheet_cells.specs.Cells.{sheet_answer}
use Rattle.amend_reach.specs.Reach.{reached, merged_from}

-- a change: an entry and its new value
pub record Change : Type 0 where
  pub entry : ℕ
  pub value : ℕ

-- entries with changes made, in order
unfoldable pub with_changes : List Change → List ℕ → List ℕ
with_changes [] e = e
with_changes (c ∷ changes) e = with_changes changes (set e c.entry c.value)

-- the entries of a sheet d "as they would stand"
unfoldable pub entries_with : List ℕ → List Change → List ℕ
entries_with d changes = with_changes changes (take entry_count d)

-- 2 ENTRY: "amendment names an entry above" 92; place 0
unfoldable pub entry_answer : ℕ → Answer
entry_answer i = refuse_if (ltb cycle_entry i) Entry 0

-- of several changes, each
unfoldable pub entries_answer : List Change → Answer
entries_answer [] = Accepted
entries_answer (c ∷ changes) = entry_answer c.entry then entries_answer changes

-- the answer to changes made together: SIZE, ENTRY, then "3 to 5 judge all the entries as they would stand"
unfoldable pub together_answer : Worksheet → List ℕ → List Change → Answer
together_answer k d changes = sheet_answer k d then entries_answer changes then judged_for k (entries_with d changes)

-- whether some change reaches a cell
unfoldable pub some_reaches : Worksheet → List Change → ℕ → Bool
some_reaches k [] cell = false
some_reaches k (c ∷ changes) cell = reached k c.entry cell || some_reaches k changes cell

-- the sheet afterwards: "reached cells hold the fresh-fill value of the amended entries; the others stay, whatever they held"
unfoldable pub amended_together : Worksheet → List ℕ → List Change → List ℕ
amended_together k d changes =
    left_by (together_answer k d changes) (merged_from (some_reaches k changes) 0 (sheet_for k (entries_with d changes)) d) d

-- an amendment is one change: entry i becomes v
abbrev pub one : ℕ → ℕ → List Change
one i v = record { entry = i; value = v } ∷ []

unfoldable pub amend_answer : Worksheet → List ℕ → ℕ → ℕ → Answer
amend_answer k d i v = together_answer k d (one i v)

unfoldable pub amended : Worksheet → List ℕ → ℕ → ℕ → List ℕ
amended k d i v = amended_together k d (one i v)

-- a sheet after a run of amendments, "refused ones among them"
unfoldable pub amended_by : Worksheet → List Change → List ℕ → List ℕ
amended_by k [] d = d
amended_by k (c ∷ run) d = amended_by k run (amended k d c.entry c.value)

-- entries with the accepted changes of a run made in order
unfoldable pub entries_by : Worksheet → List Change → List ℕ → List ℕ
entries_by k [] e = e
entries_by k (c ∷ run) e =
    entries_by k run (left_by (entry_answer c.entry then judged_for k (set e c.entry c.value)) (set e c.entry c.value) e)

-- whether an accepted amendment of a run reaches a cell
unfoldable pub reached_by : Worksheet → List Change → List ℕ → ℕ → Bool
reached_by k [] d cell = false
reached_by k (c ∷ run) d cell =
    left_by (amend_answer k d c.entry c.value) (reached k c.entry cell) false || reached_by k run (amended k d c.entry c.value) cell
