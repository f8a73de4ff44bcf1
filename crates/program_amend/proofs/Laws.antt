-- Laws of the arguments' number, of a site that is sought, and of each way that a run can go.
use Prim.Native.Nat.{ℕ, ◌≤◌}
use mathlib.Core.Path.{◌≡◌, refl}
use mathlib.Core.Bool.{Bool, true, false, cond, ◌&&◌}
use mathlib.Core.List.{List, []}
use lib.Dec.{leb, ltb}
use borrow.Author.Tests.{leb-true}
use native.Mathlib.Omega.{arith}
use Rattle.answers.specs.Answers.{left_by}
use Rattle.answers.specs.declared.Answer.{Answer}
use Rattle.answers.specs.declared.Answer.TheVariants.{Accepted, Refused as No}
use Rattle.lists.proofs.Tests.{both_true}
use Rattle.layout.specs.declared.Worksheet.{Worksheet}
use Rattle.procedure.specs.Sheet.{sheet_for}
use Rattle.page.specs.Worksheet.{change_text}
use Rattle.study.specs.Study.{is_old, judgement, sites_of, site_answer, site_entries}
use Rattle.study_changed.specs.Changed.{with_entries}
use Rattle.text.specs.Text.{Placed}
use Rattle.program_words.specs.Words.{word_at}
use Rattle.program_outcome.specs.declared.Call.{Call}
use Rattle.program_outcome.specs.declared.Lengths.{Lengths}
use Rattle.program_outcome.specs.Outcome.{saying, named, with_file, Left}
use Rattle.std.specs.Prelude.{Result, Ok, Err}
use Rattle.program_site.specs.Site.{site_named, sought_by, sought, with_site}
use Rattle.program_site.specs.declared.NoSite.{NoSite}
use Rattle.program_changes.specs.declared.Done.{Done}
use Rattle.program_changes.specs.Changes.{most_changes, changed_by}
use Rattle.program_changes.specs.Working.{Came}
use Rattle.program_amend.specs.Run.{changes_in, left_over, is_kept, amend_takes, amend_use, sheet_before}
use Rattle.program_amend.specs.Run.{changes_give, amend_site, amend_file, old_text, amend_study, amend_work}

-- no more changes are taken than there is room for
pub few_changes : (count : ℕ) → amend_takes count ≡ true → changes_in count ≤ most_changes
few_changes count right =
    let some = both_true (ltb 0 (changes_in count)) _ right in
    leb-true _ _ (both_true (leb (changes_in count) most_changes) (leb (left_over count) 1) some.1).0

-- what is left by one answer twice
pub left_twice : {A : Type 0} (a : Answer) (new old other : A) → left_by a (left_by a new old) other ≡ left_by a new other
left_twice Accepted new old other = refl
left_twice (No why place) new old other = refl

-- a site that is found is there
pub site_there : (file word : List ℕ) {site : ℕ} → sought file word ≡ Ok site → site_answer file site ≡ Accepted
unfolding sought
site_there file word {site} found = by (judgement file) refl (leb (sites_of file) (site_named word)) refl found
  where
    clash : {why : NoSite} → Err why ≡ Ok site → site_answer file site ≡ Accepted
    clash gone = cc

    here : leb (sites_of file) (site_named word) ≡ false → judgement file ≡ Accepted → ◌≡◌ {A = Result ℕ NoSite} (Ok (site_named word)) (Ok site)
        → site_answer file site ≡ Accepted
    here lacks good is =
        let same : site_named word ≡ site = cc in
        rw (good, ← same, lacks)

    by : (a : Answer) → judgement file ≡ a → (lacks : Bool) → leb (sites_of file) (site_named word) ≡ lacks
        → sought_by a (sites_of file) (site_named word) ≡ Ok site
        → site_answer file site ≡ Accepted
    by Accepted good true lacks is = clash (rw lacks at is)
    by Accepted good false lacks is = here lacks good (rw lacks at is)
    by (No why place) bad lacks so is = cc

-- where it is there, what the changes came to is given
pub left_given : (k : Worksheet) (count : ℕ) (words file : List ℕ) {site : ℕ} {printed written said entries printed' written' said' : List ℕ}
    {done : Done} {lengths : Lengths} → sought file (word_at words 1) ≡ Ok site
    → Came (changed_by k words (changes_in count) (site_entries file site)) said entries said' done
    → Placed printed 0 (cond done.made (change_text k (sheet_before k (site_entries file site)) (sheet_for k entries)) []) printed' lengths.prints
    → Placed written 0 (cond (done.made && is_kept count) (with_entries file site entries) []) written' lengths.writes
    → lengths.says ≡ done.says
    → Left (amend_file k count words file) printed said printed' said' lengths
    × Placed written 0 (amend_file k count words file).writes written' lengths.writes
unfolding amend_file amend_site changes_give
left_given k count words file found came prints writes says =
    let written = rw (came.made, came.entries) at writes in
    rw found (
      record {
        prints = rw (came.made, came.entries) at prints;
        writes = omega (arith, written.next);
        says = rw says came.says;
      },
      written,
    )

-- each way that a run can go
module _ (call : Call) (words area : List ℕ) where
  pub work_use : amend_takes call.arguments ≡ false → amend_work call words area ≡ saying amend_use
  unfolding amend_work
  work_use wrong = rw wrong

  pub work_file : amend_takes call.arguments ≡ true
      → amend_work call words area ≡ with_file call.input (word_at words 0) area (amend_study call.worksheet call.arguments words)
  unfolding amend_work
  work_file right = rw right

-- of a file of before nothing is written, whatever is asked for
pub old_unwritten : (k : Worksheet) (count : ℕ) (words file : List ℕ) → is_old file ≡ true → (amend_study k count words file).writes ≡ []
unfolding amend_study amend_file amend_site changes_give
old_unwritten k count words file old = by (is_kept count) refl (sought file (word_at words 1))
  where
    unkept : (made : Bool) (e : List ℕ) → cond (made && false) e [] ≡ []
    unkept true e = refl
    unkept false e = refl

    by : (kept : Bool) → is_kept count ≡ kept → (this : Result ℕ NoSite)
        → (cond (kept && is_old file) (saying (named (word_at words 0) old_text))
        (with_site this (word_at words 0) (word_at words 1) (amend_site k count words file))).writes ≡ []
    by true e this = rw old
    by false e (Ok site) =
        let so = changed_by k words (changes_in count) (site_entries file site) in
        rw e (unkept so.made (with_entries file site so.entries))
    by false e (Err why) = refl
