-- Demand 3 of each site: whatever is called, by whom, the site that an office has holds its entries with the office's accepted changes
-- made in order. One call after another: an add gets a place that is nobody's, and only the owner's amendments reach the block.
use mathlib.Core.Path.{◌≡◌, refl, sym, ap, ◌∙◌}
use mathlib.Core.Logic.{◌≢◌}
use mathlib.Core.Bool.{Bool, true, false, ◌&&◌}
use mathlib.Core.List.{List, [], ◌∷◌}
use Prim.Native.Nat.{ℕ}
use lib.Dec.{eqb}
use lib.ListN.{length, set}
use borrow.Author.Tests.{eqb-true, eqb-false, eq-eqb}
use Rattle.lists.proofs.Tests.{both_true, not_both}
use Rattle.layout.specs.declared.Worksheet.TheVariants.{Junction}
use Rattle.layout.specs.Sheet.{sheet_count}
use Rattle.answers.specs.Answers.{◌then◌, left_by}
use Rattle.answers.specs.declared.Answer.{Answer}
use Rattle.answers.specs.declared.Answer.TheVariants.{Accepted, Refused}
use Rattle.answers.proofs.Laws.{both_accepted}
use Rattle.entries.specs.Judging.{judged}
use Rattle.procedure.specs.Sheet.{sheet}
use Rattle.amend_sets.specs.Amend.{Change, entry_answer, entries_by}
use Rattle.open_rules.specs.Open.{Study, study, owns, block_at, lowest_free, add_answer, added, with_entry, amend_site_answer, amended_blocks}
use Rattle.open_rules.specs.Open.{read_answer, read_sheet}
use Rattle.open_rules.proofs.Blocks.{amended_block, unamended_block}
use Rattle.open_rules.proofs.Laws.{Whole, Adds, adds, amends, whole_accepted, own_accepted, read_accepted}
use Rattle.open_theorems.specs.Calls.{Call, Add, Amend, Read, next, change_in, changes_of}
use Rattle.open_theorems.specs.Working.{after}
use Rattle.open_theorems.proofs.Owners.{one_owner, own_taken, grown, grown-owners, grown-blocks, others_as_before}
use Rattle.open_theorems.proofs.Owners.{block_here, block_elsewhere, place_is_own}
use Rattle.open_theorems.proofs.Respect.{add_leaves, amend_leaves, entry_long}

-- a site that an office has, with these entries, in a whole study
pub record Site (o s : ℕ) (S : Study) (e : List ℕ) : Type 0 where
  pub study : Whole S
  pub own : owns S.owners o s ≡ true
  pub entries : block_at S.blocks s ≡ e

-- the entries that a call leaves at the site, and that they are the changes' so far
record Stepped (o s : ℕ) (c : Call) (S : Study) (e : List ℕ) : Type 0 where
  entries : List ℕ
  site : Site o s S entries
  made : (later : List Change) → entries_by Junction (change_in o s c later) e ≡ entries_by Junction later entries

module _ (o s : ℕ) {S : Study} {e : List ℕ} (at : Site o s S e) where
  grown_site : (office : ℕ) (f : List ℕ) (a : Adds S office f) → Site o s (grown S office f a) e
  grown_site office f a =
      let apart = own_taken S.owners o s at.own in
      record {
        study = record { owners = grown-owners S office f a ∙ at.study.owners; blocks = grown-blocks S office f a ∙ at.study.blocks };
        own = others_as_before S office f a o s apart ∙ at.own;
        entries = block_elsewhere S office f a s apart ∙ at.entries;
      }

  add_step : (office : ℕ) (f : List ℕ) (answer : Answer) → add_answer S office f ≡ answer → Site o s (added S office f) e
  add_step office f (Refused why place) told = rw (add_leaves S office f told) at
  add_step office f Accepted told = rw (add_leaves S office f told) (grown_site office f (adds S office f told))

  -- the owner's amendment is answered by the entries alone
  own_site_answer : (i v : ℕ) → amend_site_answer S o s i v ≡ (entry_answer i then judged (set e i v))
  unfolding amend_site_answer
  own_site_answer i v = rw (whole_accepted S at.study, own_accepted S.owners o s at.own, at.entries)

  Site-with_entry : (p i v : ℕ) {f : List ℕ} → block_at (with_entry S.blocks p i v) s ≡ f → Site o s (study S.owners (with_entry S.blocks p i v)) f
  Site-with_entry p i v is =
      record {
        study = record { owners = at.study.owners; blocks = entry_long S.blocks p i v ∙ at.study.blocks };
        own = at.own;
        entries = is;
      }

  own_step : (i v : ℕ) (answer : Answer) → amend_site_answer S o s i v ≡ answer
      → Site o s (study S.owners (amended_blocks S o s i v)) (left_by answer (set e i v) e)
  own_step i v (Refused why place) told = rw (amend_leaves S o s i v told) at
  own_step i v Accepted told =
      rw (amend_leaves S o s i v told)
      (Site-with_entry s i v (amended_block S.blocks s i v (amends S o s i v told).entry ∙ ap (λ b. set b i v) at.entries))

  other_step : (office p i v : ℕ) → (office ≡ o → p ≢ s) → (answer : Answer) → amend_site_answer S office p i v ≡ answer
      → Site o s (study S.owners (amended_blocks S office p i v)) e
  other_step office p i v not_ours (Refused why place) told = rw (amend_leaves S office p i v told) at
  other_step office p i v not_ours Accepted told =
      let a = amends S office p i v told in
      rw (amend_leaves S office p i v told)
      (Site-with_entry p i v (unamended_block S.blocks s p i v a.entry
      (λ here. not_ours (one_owner S.owners office o s (ap (owns S.owners office) here ∙ a.own) at.own) (sym here)) ∙ at.entries))

  amend_step : (office p i v : ℕ) (ours : Bool) → (eqb office o && eqb p s) ≡ ours → Stepped o s (Amend office p i v) (next S (Amend office p i v)) e
  unfolding entries_by
  amend_step office p i v true ours =
      let two = both_true (eqb office o) (eqb p s) ours in
      let whose : office ≡ o = eqb-true office o two.0 in
      let where_it_is : p ≡ s = eqb-true p s two.1 in
      record {
        entries = left_by (amend_site_answer S o s i v) (set e i v) e;
        site = rw (whose, where_it_is) (own_step i v (amend_site_answer S o s i v) refl);
        made = λ later. rw (ours, own_site_answer i v);
      }
  amend_step office p i v false ours =
      record {
        entries = e;
        site = other_step office p i v not_ours (amend_site_answer S office p i v) refl;
        made = λ later. rw ours;
      }
    where
      not_ours : office ≡ o → p ≢ s
      not_ours whose here = eqb-false p s (not_both (eqb office o) (eqb p s) ours (eq-eqb office o whose)) here

  step : (c : Call) → Stepped o s c (next S c) e
  step (Add office f before) = record { entries = e; site = add_step office f (add_answer S office f) refl; made = λ later. refl }
  step (Amend office p i v) = amend_step office p i v (eqb office o && eqb p s) refl
  step (Read office p d) = record { entries = e; site = at; made = λ later. refl }

-- over any run
pub site_kept : (o s : ℕ) (run : List Call) {S : Study} {e : List ℕ} → Site o s S e → Site o s (after run S) (entries_by Junction (changes_of o s run) e)
unfolding after changes_of entries_by
site_kept o s [] at = at
site_kept o s (c ∷ run) {S} {e} at =
    let once = step o s at c in
    rw (once.made (changes_of o s run)) (site_kept o s run once.site)

-- accepted changes keep entries acceptable
pub still_fine : (changes : List Change) (e : List ℕ) → judged e ≡ Accepted → judged (entries_by Junction changes e) ≡ Accepted
unfolding entries_by
still_fine [] e ok = ok
still_fine (c ∷ changes) e ok = still_fine changes _ (by (entry_answer c.entry then judged (set e c.entry c.value)) refl)
  where
    by : (answer : Answer) → (entry_answer c.entry then judged (set e c.entry c.value)) ≡ answer
        → judged (left_by answer (set e c.entry c.value) e) ≡ Accepted
    by Accepted told = (both_accepted (entry_answer c.entry) (judged (set e c.entry c.value)) told).1
    by (Refused why place) told = ok

-- an added site is the office's, with its entries
pub added_site : (o : ℕ) (S : Study) (e : List ℕ) → add_answer S o e ≡ Accepted → Site o (lowest_free S.owners) (added S o e) e
added_site o S e told =
    let a = adds S o e told in
    rw (add_leaves S o e told)
    record {
      study = record { owners = grown-owners S o e a ∙ a.study.owners; blocks = grown-blocks S o e a ∙ a.study.blocks };
      own = place_is_own S o e a;
      entries = block_here S o e a;
    }

-- and acceptable entries are read as their sheet
pub read_of_site : {o s : ℕ} {S : Study} {e : List ℕ} → Site o s S e → judged e ≡ Accepted → (d : List ℕ) → length d ≡ sheet_count Junction
    → (read_answer S o s d ≡ Accepted) × (read_sheet S o s d ≡ sheet e)
unfolding read_sheet
read_of_site {o} {s} {S} {e} at ok d cells =
    let answer = read_accepted S o s d record { study = at.study; cells = cells; own = at.own; fine = ap judged at.entries ∙ ok } in
    (answer, rw (answer, at.entries))
