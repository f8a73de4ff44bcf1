-- Laws of changes made one after the other: what one more adds, and that entries with a change made are acceptable.
use Rattle.std.specs.Prelude.{Result, Ok, Err, is_ok}
use Prim.Native.Nat.{ℕ, zero, suc, ◌+◌, ◌≤◌}
use mathlib.Core.Path.{◌≡◌, refl}
use mathlib.Core.Bool.{Bool, true, false, ◌||◌}
use mathlib.Core.List.{List}
use lib.ListN.{length, set}
use native.Mathlib.Numerals.{add-one}
use native.Mathlib.Omega.{arith}
use Rattle.answers.specs.declared.Answer.{Answer}
use Rattle.answers.specs.declared.Answer.TheVariants.{Accepted, Refused as No}
use Rattle.layout.specs.declared.Worksheet.{Worksheet}
use Rattle.entries.specs.Judging.{judged_for}
use Rattle.text.proofs.Laws.{placed_after}
use Rattle.program_changes.specs.declared.Change.{Change}
use Rattle.program_changes.specs.declared.Done.{Done}
use Rattle.program_changes.specs.declared.NotMade.{NotMade}
use Rattle.program_changes.specs.declared.Wrong.{Wrong}
use Rattle.program_changes.specs.Changes.{asked_of, verdict_by, verdict_for, verdict_of, verdict_in, entries_after, changes_to}
use Rattle.program_changes.specs.Working.{Stepped, Came}

-- one change more
module _ (k : Worksheet) (several : Bool) (words e : List ℕ) (n : ℕ) where
  pub came_more : {said entries' said' entries'' said'' : List ℕ} {done done' : Done}
      → Came (changes_to k several words e n) said entries' said' done
      → Stepped done (verdict_in k words n entries') several words n entries' entries'' said' said'' done'
      → done'.says ≤ length said
      → Came (changes_to k several words e (n + 1)) said entries'' said'' done'
  unfolding changes_to
  came_more so step fits =
      rw (add-one n)
      (record {
        entries = rw so.entries at step.entries;
        made = rw (so.entries, so.made) at step.made;
        says = placed_after so.says (rw so.entries at step.says) fits;
      })

-- a change that is made leaves acceptable entries
verdict_made : (k : Worksheet) (title kind value e : List ℕ) {x : Change} → verdict_of k title kind value e ≡ Ok x
    → judged_for k (set e x.entry x.value) ≡ Accepted
unfolding verdict_of
verdict_made k title kind value e {x} is = by (asked_of title kind value) is
  where
    tried : (y : Change) (a : Answer) → judged_for k (set e y.entry y.value) ≡ a → verdict_by a y ≡ Ok x → judged_for k (set e x.entry x.value) ≡ Accepted
    tried y Accepted good made =
        let same : y ≡ x = cc in
        rw same at good
    tried y (No why place) bad made = cc

    by : (a : Result Change Wrong) → verdict_for k a e ≡ Ok x → judged_for k (set e x.entry x.value) ≡ Accepted
    by (Ok y) made = tried y (judged_for k (set e y.entry y.value)) refl made
    by (Err wrong) made = cc

made_before : (made : Bool) → made || false ≡ true → made ≡ true
made_before true h = refl
made_before false h = h

module _ (k : Worksheet) (several : Bool) (words e : List ℕ) where
  pub made_acceptable : (n : ℕ) → (changes_to k several words e n).made ≡ true → judged_for k (changes_to k several words e n).entries ≡ Accepted
  unfolding changes_to verdict_in
  made_acceptable zero made = absurd (let z : ◌≡◌ {A = ℕ} 0 1 = cc in omega arith)
  made_acceptable (suc n) made =
      by (verdict_in k words n (changes_to k several words e n).entries) refl (λ h. made_acceptable n (made_before _ h)) made
    where
      by : (v : Result Change NotMade) → verdict_in k words n (changes_to k several words e n).entries ≡ v
          → ((changes_to k several words e n).made || false ≡ true → judged_for k (changes_to k several words e n).entries ≡ Accepted)
          → (changes_to k several words e n).made || is_ok v ≡ true
          → judged_for k (entries_after v (changes_to k several words e n).entries) ≡ Accepted
      by (Ok x) is before h = verdict_made k _ _ _ (changes_to k several words e n).entries is
      by (Err why) is before h = before h
