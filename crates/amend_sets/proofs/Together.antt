-- Changes made together: what is answered, what stays, and that the sheet is the fresh fill wherever it should be. What no change
-- reaches is untouched change by change.
use mathlib.Core.Path.{◌≡◌, refl, sym, ◌∙◌, fun_ext}
use mathlib.Core.Bool.{false, cond, or-false}
use mathlib.Core.List.{List, [], ◌∷◌}
use Prim.Native.Nat.{ℕ, ◌<◌}
use lib.ListN.{length, get_or, set, take, length-set}
use borrow.Author.Tests.{eq-eqb}
use Rattle.layout.specs.declared.Worksheet.{Worksheet}
use Rattle.layout.specs.Entries.{entry_count}
use Rattle.layout.specs.Sheet.{sheet_count}
use Rattle.lists.proofs.Tests.{neither}
use Rattle.answers.specs.Answers.{◌then◌, left_by}
use Rattle.answers.specs.declared.Refusal.{Refusal}
use Rattle.answers.specs.declared.Answer.{Answer}
use Rattle.answers.specs.declared.Answer.TheVariants.{Accepted, Refused}
use Rattle.answers.proofs.Laws.{both_accepted}
use Rattle.entries.specs.Judging.{judged_for}
use Rattle.entries.proofs.Laws.{accepted_count, as_junction}
use Rattle.procedure.specs.Sheet.{sheet_for}
use Rattle.sheet_cells.specs.Cells.{sheet_answer}
use Rattle.sheet_cells.proofs.Cells.{sheet_accepted, sheet_length, sheet_entries}
use Rattle.amend_reach.specs.Reach.{reached, merged}
use Rattle.amend_reach.proofs.Merging.{length_merged, merged_cell, merged_is_fresh}
use Rattle.amend_untouched.proofs.Untouched.{untouched}
use Rattle.amend_sets.specs.Amend.{Change, with_changes, entries_with, entry_answer, entries_answer, together_answer, some_reaches, amended_together}
use Rattle.amend_sets.specs.Amend.{one, amend_answer, amended}
use Rattle.amend_sets.proofs.Changes.{entries_accepted, still_long}

-- a cell that no change reaches holds the same in the sheets of the entries before and after all of them
all_untouched :
    (k : Worksheet) (changes : List Change) (e : List ℕ) → length e ≡ entry_count → entries_answer changes ≡ Accepted
    → (j : ℕ) → j < sheet_count k → some_reaches k changes j ≡ false → get_or (sheet_for k (with_changes changes e)) j 0 ≡ get_or (sheet_for k e) j 0
unfolding with_changes some_reaches
all_untouched k [] e long known j hj out = refl
all_untouched k (c ∷ changes) e long known j hj out =
    let two = entries_accepted c changes known in
    let off = neither (reached k c.entry j) (some_reaches k changes j) out in
    all_untouched k changes (set e c.entry c.value) (length-set e c.entry c.value ∙ long) two.1 j hj off.1
    ∙ untouched k e c.entry c.value long two.0 j hj off.0

-- there are as many acceptable entries as there should be
all_there : (k : Worksheet) (e : List ℕ) → judged_for k e ≡ Accepted → length e ≡ entry_count
all_there k e ok = accepted_count e (as_junction k e ok)

-- what acceptance says
pub record Taken (k : Worksheet) (d : List ℕ) (changes : List Change) : Type 0 where
  pub long : length d ≡ sheet_count k
  pub known : entries_answer changes ≡ Accepted
  pub fine : judged_for k (entries_with d changes) ≡ Accepted

pub taken : (k : Worksheet) (d : List ℕ) (changes : List Change) → together_answer k d changes ≡ Accepted → Taken k d changes
unfolding together_answer
taken k d changes accepted =
    let later = both_accepted (sheet_answer k d) (entries_answer changes then judged_for k (entries_with d changes)) accepted in
    let named = both_accepted (entries_answer changes) (judged_for k (entries_with d changes)) later.1 in
    record { long = sheet_accepted k d later.0; known = named.0; fine = named.1 }

module _ (k : Worksheet) (d : List ℕ) (changes : List Change) where
  -- refused, they leave any sheet as it was
  pub all_stays : {why : Refusal} {place : ℕ} → together_answer k d changes ≡ Refused why place → amended_together k d changes ≡ d
  unfolding amended_together
  all_stays refused = rw refused

  module _ (accepted : together_answer k d changes ≡ Accepted) where
    fresh_long : length (sheet_for k (entries_with d changes)) ≡ length d
    fresh_long =
        let t = taken k d changes accepted in
        sheet_length k (entries_with d changes) (all_there k (entries_with d changes) t.fine) ∙ sym t.long

    -- accepted, they keep its length; every cell that some change reaches holds the fresh fill, and no other cell changes
    pub all_long : length (amended_together k d changes) ≡ length d
    unfolding amended_together
    all_long = rw accepted (length_merged (some_reaches k changes) 0 (sheet_for k (entries_with d changes)) d fresh_long)

    pub all_cells :
        (j : ℕ) → j < length d
        → get_or (amended_together k d changes) j 0 ≡ cond (some_reaches k changes j) (get_or (sheet_for k (entries_with d changes)) j 0) (get_or d j 0)
    unfolding amended_together
    all_cells j h = rw accepted (merged_cell (some_reaches k changes) (sheet_for k (entries_with d changes)) d fresh_long j h)

-- changes of a sheet that was filled from acceptable entries are judged by those entries
module _ (k : Worksheet) (e : List ℕ) (ok : judged_for k e ≡ Accepted) (changes : List Change) where
  filled_entries : entries_with (sheet_for k e) changes ≡ with_changes changes e
  unfolding entries_with
  filled_entries = rw (sheet_entries k e (all_there k e ok))

  pub filled_answer : together_answer k (sheet_for k e) changes ≡ (entries_answer changes then judged_for k (with_changes changes e))
  unfolding together_answer sheet_answer
  filled_answer = rw (sheet_length k e (all_there k e ok), filled_entries, eq-eqb (sheet_count k) (sheet_count k) refl)

  -- and, accepted, leave exactly the fresh fill of the entries with all of them made
  pub all_fresh :
      together_answer k (sheet_for k e) changes ≡ Accepted → amended_together k (sheet_for k e) changes ≡ sheet_for k (with_changes changes e)
  unfolding amended_together
  all_fresh accepted =
      let long = all_there k e ok in
      let old = sheet_length k e long in
      let new = sheet_length k (with_changes changes e) (still_long changes e ∙ long) in
      rw (accepted, filled_entries)
      (merged_is_fresh (some_reaches k changes) (sheet_for k (with_changes changes e)) (sheet_for k e) (new ∙ sym old)
      (λ j h out. all_untouched k changes e long (taken k (sheet_for k e) changes accepted).known j (rw old at h) out))

-- an amendment, one change: as the rules have it
pub alone : (a : Answer) → (a then Accepted) ≡ a
alone Accepted = refl
alone (Refused why place) = refl

module _ (k : Worksheet) (d : List ℕ) (i v : ℕ) where
  pub one_answer : amend_answer k d i v ≡ (sheet_answer k d then entry_answer i then judged_for k (set (take entry_count d) i v))
  unfolding amend_answer together_answer entries_answer entries_with with_changes
  one_answer = rw (alone (entry_answer i))

  one_reaches : some_reaches k (one i v) ≡ reached k i
  unfolding some_reaches
  one_reaches = fun_ext (λ j. or-false (reached k i j))

  pub one_amended : amended k d i v ≡ left_by (amend_answer k d i v) (merged k i (sheet_for k (set (take entry_count d) i v)) d) d
  unfolding amended amend_answer amended_together entries_with with_changes
  one_amended = rw one_reaches

-- where it is accepted on a filled sheet, it leaves exactly the fresh fill of the entries as amended
pub amended_is_fresh :
    (k : Worksheet) (e : List ℕ) → judged_for k e ≡ Accepted
    → (i v : ℕ) → amend_answer k (sheet_for k e) i v ≡ Accepted → amended k (sheet_for k e) i v ≡ sheet_for k (set e i v)
unfolding amend_answer amended with_changes
amended_is_fresh k e ok i v = all_fresh k e ok (one i v)

-- and where it is refused, any sheet as it was
pub refused_stays :
    (k : Worksheet) {why : Refusal} {place : ℕ} (d : List ℕ) (i v : ℕ) → amend_answer k d i v ≡ Refused why place → amended k d i v ≡ d
unfolding amend_answer amended
refused_stays k d i v = all_stays k d (one i v)
