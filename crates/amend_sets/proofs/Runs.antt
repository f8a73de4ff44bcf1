-- Demand 3 over any run of amendments: one step after another, by what is answered to each.
use mathlib.Core.Path.{◌≡◌, refl, ◌∙◌}
use mathlib.Core.Bool.{false, or-false}
use mathlib.Core.List.{List, [], ◌∷◌}
use Prim.Native.Nat.{ℕ, ◌<◌}
use native.Mathlib.Omega.{arith}
use lib.ListN.{length, get_or, set}
use Rattle.layout.specs.declared.Worksheet.{Worksheet}
use Rattle.lists.proofs.Tests.{neither}
use Rattle.answers.specs.Answers.{◌then◌, left_by}
use Rattle.answers.specs.declared.Answer.{Answer}
use Rattle.answers.specs.declared.Answer.TheVariants.{Accepted, Refused}
use Rattle.answers.proofs.Laws.{both_accepted}
use Rattle.entries.specs.Judging.{judged_for}
use Rattle.procedure.specs.Sheet.{sheet_for}
use Rattle.amend_reach.specs.Reach.{reached}
use Rattle.amend_sets.specs.Amend.{Change, with_changes, entry_answer, entries_answer, some_reaches, one, amend_answer, amended}
use Rattle.amend_sets.specs.Amend.{amended_by, entries_by, reached_by}
use Rattle.amend_sets.proofs.Together.{alone, filled_answer, all_long, all_cells, amended_is_fresh, refused_stays}

-- one step of a run on a filled sheet, by what is answered
record Stepped (k : Worksheet) (e d : List ℕ) : Type 0 where
  is : d ≡ sheet_for k e
  ok : judged_for k e ≡ Accepted

module _ (k : Worksheet) (e : List ℕ) (ok : judged_for k e ≡ Accepted) (i v : ℕ) where
  -- an amendment of a filled sheet is answered by its entries alone
  same : amend_answer k (sheet_for k e) i v ≡ (entry_answer i then judged_for k (set e i v))
  unfolding amend_answer entries_answer with_changes
  same = filled_answer k e ok (one i v) ∙ rw (alone (entry_answer i))

  step :
      (answer : Answer) → (entry_answer i then judged_for k (set e i v)) ≡ answer
      → Stepped k (left_by answer (set e i v) e) (amended k (sheet_for k e) i v)
  step Accepted told =
      record { is = amended_is_fresh k e ok i v (same ∙ told); ok = (both_accepted (entry_answer i) (judged_for k (set e i v)) told).1 }
  step (Refused why place) told = record { is = refused_stays k (sheet_for k e) i v (same ∙ told); ok = ok }

-- over any run, refused amendments among them, the sheet is the fresh fill of the entries with the accepted changes made in order
pub run_is_fresh :
    (k : Worksheet) (run : List Change) (e : List ℕ) → judged_for k e ≡ Accepted
    → amended_by k run (sheet_for k e) ≡ sheet_for k (entries_by k run e)
unfolding amended_by entries_by
run_is_fresh k [] e ok = refl
run_is_fresh k (c ∷ run) e ok =
    let s = step k e ok c.entry c.value (entry_answer c.entry then judged_for k (set e c.entry c.value)) refl in
    rw s.is (run_is_fresh k run _ s.ok)

-- what one amendment leaves of a cell that it does not reach
record Kept (d' d : List ℕ) (j : ℕ) : Type 0 where
  long : length d' ≡ length d
  cell : get_or d' j 0 ≡ get_or d j 0

cell_kept :
    (k : Worksheet) (d : List ℕ) (i v j : ℕ) → j < length d → (answer : Answer) → amend_answer k d i v ≡ answer
    → left_by answer (reached k i j) false ≡ false → Kept (amended k d i v) d j
unfolding amended amend_answer some_reaches
cell_kept k d i v j h Accepted accepted out =
    record { long = all_long k d (one i v) accepted; cell = all_cells k d (one i v) accepted j h ∙ rw (or-false (reached k i j), out) }
cell_kept k d i v j h (Refused why place) refused out = rw (refused_stays k d i v refused) record { long = refl; cell = refl }

-- on any sheet at all, over any run, no cell outside what the accepted amendments reach changes
pub run_keeps :
    (k : Worksheet) (run : List Change) (d : List ℕ) (j : ℕ) → j < length d → reached_by k run d j ≡ false
    → get_or (amended_by k run d) j 0 ≡ get_or d j 0
unfolding amended_by reached_by
run_keeps k [] d j h out = refl
run_keeps k (c ∷ run) d j h out =
    let i = c.entry in
    let v = c.value in
    let two = neither (left_by (amend_answer k d i v) (reached k i j) false) (reached_by k run (amended k d i v) j) out in
    let once = cell_kept k d i v j h (amend_answer k d i v) refl two.0 in
    run_keeps k run (amended k d i v) j (omega (arith, once.long)) two.1 ∙ once.cell
