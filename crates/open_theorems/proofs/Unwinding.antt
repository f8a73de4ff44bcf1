-- Output and step consistency: what a call of an office is told, and what it makes of the study to that office, go by what the study
-- is to it, and for an add by the lowest free place.
use mathlib.Core.Path.{◌≡◌, refl, sym, ap, ◌∙◌}
use mathlib.Core.Logic.{◌≢◌}
use mathlib.Core.Bool.{Bool, true, false}
use mathlib.Core.List.{List}
use Prim.Native.Nat.{ℕ, ◌<◌}
use native.Mathlib.Decide.{ℕ_discrete}
use lib.ListN.{set}
use Rattle.answers.specs.Answers.{◌then◌, left_by}
use Rattle.answers.specs.declared.Answer.{Answer}
use Rattle.answers.specs.declared.Answer.TheVariants.{Accepted, Refused}
use Rattle.layout.specs.declared.Worksheet.TheVariants.{Junction}
use Rattle.layout.specs.Entries.{entry_count}
use Rattle.entries.specs.Judging.{judged}
use Rattle.sheet_cells.specs.Cells.{sheet_answer}
use Rattle.procedure.specs.Sheet.{sheet}
use Rattle.amend_sets.specs.Amend.{entry_answer}
use Rattle.open_rules.specs.Open.{Study, study, owns, block_at, study_size, site_owner, lowest_free, full_answer, may_add, add_answer, added_place}
use Rattle.open_rules.specs.Open.{added, with_entry, amend_site_answer, amended_blocks, read_answer, read_sheet}
use Rattle.open_rules.proofs.Blocks.{amended_block, unamended_block}
use Rattle.open_rules.proofs.Laws.{Adds, adds, amends, reads, not_own_refused}
use Rattle.open_theorems.specs.Calls.{Call, Add, Amend, Read, caller, is_add, next, output}
use Rattle.open_theorems.specs.Separation.{Alike}
use Rattle.open_theorems.proofs.Owners.{grown, grown-owners, grown-blocks, place_is_own, others_as_before, block_here, block_elsewhere}
use Rattle.open_theorems.proofs.Respect.{add_leaves, amend_leaves, entry_long}

module _ {o : ℕ} {S T : Study} (alike : Alike o S T) where
  -- ---- what is answered

  same_size : study_size S ≡ study_size T
  unfolding study_size
  same_size = rw (alike.owners_long, alike.blocks_long)

  -- past OWNER the block is the same, whatever is asked of it
  past_owner :
      (s : ℕ) (ask : List ℕ → Answer)
      → (site_owner S.owners o s then ask (block_at S.blocks s)) ≡ (site_owner T.owners o s then ask (block_at T.blocks s))
  unfolding site_owner
  past_owner s ask = by (owns S.owners o s) refl
    where
      by : (t : Bool) → owns S.owners o s ≡ t
          → (site_owner S.owners o s then ask (block_at S.blocks s)) ≡ (site_owner T.owners o s then ask (block_at T.blocks s))
      by true mine = rw (alike.places s, alike.entries s mine)
      by false other = rw (not_own_refused S.owners o s other, not_own_refused T.owners o s (sym (alike.places s) ∙ other))

  amend_same : (s i v : ℕ) → amend_site_answer S o s i v ≡ amend_site_answer T o s i v
  unfolding amend_site_answer
  amend_same s i v = rw same_size (ap (λ rest. study_size T then entry_answer i then rest) (past_owner s (λ e. judged (set e i v))))

  read_same : (s : ℕ) (d : List ℕ) → read_answer S o s d ≡ read_answer T o s d
  unfolding read_answer
  read_same s d = rw same_size (ap (λ rest. study_size T then sheet_answer Junction d then rest) (past_owner s judged))

  sheet_same : (s : ℕ) (d : List ℕ) → read_sheet S o s d ≡ read_sheet T o s d
  unfolding read_sheet
  sheet_same s d = rw (sym (read_same s d)) (by (read_answer S o s d) refl)
    where
      by : (answer : Answer) → read_answer S o s d ≡ answer
          → left_by answer (sheet (block_at S.blocks s)) d ≡ left_by answer (sheet (block_at T.blocks s)) d
      by Accepted told = ap sheet (alike.entries s (reads S o s d told).own)
      by (Refused why place) told = refl

  module _ (lowest : lowest_free S.owners ≡ lowest_free T.owners) where
    add_same : (e : List ℕ) → add_answer S o e ≡ add_answer T o e
    unfolding add_answer may_add full_answer
    add_same e = rw (same_size, alike.owners_long, lowest)

    place_same : (e : List ℕ) (before : ℕ) → added_place S o e before ≡ added_place T o e before
    unfolding added_place
    place_same e before = rw (add_same e, lowest)

    -- ---- what is left

    grown_same : (e : List ℕ) (a : Adds S o e) (b : Adds T o e) → Alike o (grown S o e a) (grown T o e b)
    grown_same e a b =
        record {
          owners_long = grown-owners S o e a ∙ alike.owners_long ∙ sym (grown-owners T o e b);
          blocks_long = grown-blocks S o e a ∙ alike.blocks_long ∙ sym (grown-blocks T o e b);
          places = λ s. whose s (ℕ_discrete s (lowest_free S.owners));
          entries = λ s mine. what s mine (ℕ_discrete s (lowest_free S.owners));
        }
      where
        theirs : {s : ℕ} → s ≢ lowest_free S.owners → s ≢ lowest_free T.owners
        theirs apart e = apart (e ∙ sym lowest)

        whose : (s : ℕ) → Dec (s ≡ lowest_free S.owners) → owns (grown S o e a).owners o s ≡ owns (grown T o e b).owners o s
        whose s (yes here) =
            ap (owns (grown S o e a).owners o) here ∙ place_is_own S o e a
            ∙ sym (ap (owns (grown T o e b).owners o) (here ∙ lowest) ∙ place_is_own T o e b)
        whose s (no apart) =
            others_as_before S o e a o s apart ∙ alike.places s ∙ sym (others_as_before T o e b o s (theirs apart))

        what : (s : ℕ) → owns (grown S o e a).owners o s ≡ true → Dec (s ≡ lowest_free S.owners)
            → block_at (grown S o e a).blocks s ≡ block_at (grown T o e b).blocks s
        what s mine (yes here) =
            ap (block_at (grown S o e a).blocks) here ∙ block_here S o e a
            ∙ sym (ap (block_at (grown T o e b).blocks) (here ∙ lowest) ∙ block_here T o e b)
        what s mine (no apart) =
            block_elsewhere S o e a s apart ∙ alike.entries s (sym (others_as_before S o e a o s apart) ∙ mine)
            ∙ sym (block_elsewhere T o e b s (theirs apart))

    add_steps : (e : List ℕ) (answer : Answer) → add_answer S o e ≡ answer → Alike o (added S o e) (added T o e)
    add_steps e (Refused why place) told = rw (add_leaves S o e told, add_leaves T o e (sym (add_same e) ∙ told)) alike
    add_steps e Accepted told =
        let theirs = sym (add_same e) ∙ told in
        rw (add_leaves S o e told, add_leaves T o e theirs) (grown_same e (adds S o e told) (adds T o e theirs))

  amend_steps : (s i v : ℕ) (answer : Answer) → amend_site_answer S o s i v ≡ answer
      → Alike o (study S.owners (amended_blocks S o s i v)) (study T.owners (amended_blocks T o s i v))
  amend_steps s i v (Refused why place) told =
      rw (amend_leaves S o s i v told, amend_leaves T o s i v (sym (amend_same s i v) ∙ told)) alike
  amend_steps s i v Accepted told =
      let a = amends S o s i v told in
      rw (amend_leaves S o s i v told, amend_leaves T o s i v (sym (amend_same s i v) ∙ told))
      record {
        owners_long = alike.owners_long;
        blocks_long = entry_long S.blocks s i v ∙ alike.blocks_long ∙ sym (entry_long T.blocks s i v);
        places = alike.places;
        entries = λ p mine. what p mine (ℕ_discrete p s) a.entry (alike.entries s a.own);
      }
    where
      what : (p : ℕ) → owns S.owners o p ≡ true → Dec (p ≡ s) → i < entry_count → block_at S.blocks s ≡ block_at T.blocks s
          → block_at (with_entry S.blocks s i v) p ≡ block_at (with_entry T.blocks s i v) p
      what p mine (yes here) few same =
          rw here (amended_block S.blocks s i v few ∙ ap (λ e. set e i v) same ∙ sym (amended_block T.blocks s i v few))
      what p mine (no apart) few same =
          unamended_block S.blocks p s i v few apart ∙ alike.entries p mine ∙ sym (unamended_block T.blocks p s i v few apart)

  -- OUTPUT CONSISTENCY
  pub told_same : (c : Call) → caller c ≡ o → (is_add c ≡ true → lowest_free S.owners ≡ lowest_free T.owners) → output S c ≡ output T c
  told_same (Add office e before) mine low = rw mine (rw (add_same (low refl) e, place_same (low refl) e before))
  told_same (Amend office s i v) mine low = rw mine (rw (amend_same s i v))
  told_same (Read office s d) mine low = rw mine (rw (read_same s d, sheet_same s d))

  -- STEP CONSISTENCY
  pub steps_same :
      (c : Call) → caller c ≡ o → (is_add c ≡ true → lowest_free S.owners ≡ lowest_free T.owners) → Alike o (next S c) (next T c)
  steps_same (Add office e before) mine low = rw mine (add_steps (low refl) e (add_answer S o e) refl)
  steps_same (Amend office s i v) mine low = rw mine (amend_steps s i v (amend_site_answer S o s i v) refl)
  steps_same (Read office s d) mine low = alike
