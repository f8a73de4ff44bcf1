-- What acceptance by each check of an open study says, and what the lowest free place is.
use mathlib.Core.Path.{◌≡◌, refl, sym, ◌∙◌}
use mathlib.Core.Logic.{◌≢◌}
use mathlib.Core.Bool.{Bool, true, false, not, cond}
use mathlib.Core.List.{List, [], ◌∷◌}
use Prim.Native.Nat.{ℕ, zero, suc, ◌+◌, ◌≤◌, ◌<◌}
use native.Mathlib.Decide.{dec_lt}
use native.Mathlib.Omega.{arith}
use lib.Dec.{eqb, leb, ltb}
use lib.ListN.{length, get_or, set, get_or-eq_default}
use borrow.Author.Tests.{eqb-true, eqb-false, eq-eqb, ne_eqb, leb-false, le-leb, lt-leb, le-ltb, lt-ltb, not-true, not-false}
use Rattle.std.specs.Prelude.{Some, None}
use Rattle.std.specs.List.{position_or_len}
use Rattle.lists.proofs.Tests.{both_true}
use Rattle.layout.specs.Entries.{entry_count}
use Rattle.layout.specs.declared.Worksheet.TheVariants.{Junction}
use Rattle.layout.specs.Sheet.{sheet_count}
use Rattle.layout.specs.Open.{place_count, blocks_count}
use Rattle.answers.specs.Answers.{refuse_if}
use Rattle.answers.specs.declared.Refusal.TheVariants.{Size, Owner, Full}
use Rattle.answers.specs.declared.Answer.TheVariants.{Accepted, Refused}
use Rattle.answers.proofs.Laws.{both_accepted, not_refused, sized}
use Rattle.entries.specs.Judging.{size_answer, judged}
use Rattle.sheet_cells.specs.Cells.{sheet_answer}
use Rattle.sheet_cells.proofs.Cells.{sheet_accepted}
use Rattle.amend_sets.specs.Amend.{entry_answer}
use Rattle.amend_sets.proofs.Changes.{entry_accepted}
use Rattle.open_rules.specs.Open.{Study, free, block_at, study_size, owner_of, owns, site_owner, add_owner, lowest_free, full_answer}
use Rattle.open_rules.specs.Working.{free_place}
use Rattle.open_rules.specs.Open.{may_add, add_answer, amend_site_answer, read_answer}

-- ---- the checks

-- SIZE is not answered only of a study that has all its owners and blocks
pub record Whole (S : Study) : Type 0 where
  pub owners : length S.owners ≡ place_count
  pub blocks : length S.blocks ≡ blocks_count

pub whole : (S : Study) → study_size S ≡ Accepted → Whole S
unfolding study_size
whole S accepted =
    let two = both_accepted (refuse_if (not (eqb (length S.owners) place_count)) Size 0) _ accepted in
    record { owners = sized (length S.owners) place_count two.0; blocks = sized (length S.blocks) blocks_count two.1 }

pub whole_accepted : (S : Study) → Whole S → study_size S ≡ Accepted
unfolding study_size
whole_accepted S w = rw (eq-eqb _ _ w.owners, eq-eqb _ _ w.blocks)

-- what it is to have a site
pub record Owned (owners : List ℕ) (office s : ℕ) : Type 0 where
  pub someone : office ≢ free
  pub there : s < length owners
  pub owner : get_or owners s free ≡ office

module _ (owners : List ℕ) (office s : ℕ) where
  pub owned : owns owners office s ≡ true → Owned owners office s
  unfolding owns owner_of
  owned h =
      let two = both_true (not (eqb office free)) (eqb (get_or owners s free) office) h in
      let someone = eqb-false office free (not-true _ two.0) in
      let owner = eqb-true (get_or owners s free) office two.1 in
      record { someone = someone; there = by (dec_lt s (length owners)) someone owner; owner = owner }
    where
      by : Dec (s < length owners) → office ≢ free → get_or owners s free ≡ office → s < length owners
      by (yes there) someone owner = there
      by (no past) someone owner = absurd (someone (sym owner ∙ get_or-eq_default owners free {n = s} (omega arith)))

  pub owned_so : Owned owners office s → owns owners office s ≡ true
  unfolding owns owner_of
  owned_so o = rw (ne_eqb office free o.someone, eq-eqb _ _ o.owner)

  pub own_place : length owners ≡ place_count → owns owners office s ≡ true → s < place_count
  own_place size h = omega (arith, size, (owned h).there)

  -- OWNER is answered of whatever is not the office's, and of nothing else
  pub site_accepted : site_owner owners office s ≡ Accepted → owns owners office s ≡ true
  unfolding site_owner
  site_accepted h = not-false _ (not_refused (not (owns owners office s)) Owner s h)

  pub own_accepted : owns owners office s ≡ true → site_owner owners office s ≡ Accepted
  unfolding site_owner
  own_accepted h = rw h

  pub not_own_refused : owns owners office s ≡ false → site_owner owners office s ≡ Refused Owner s
  unfolding site_owner
  not_own_refused h = rw h

-- ---- the lowest free place

pub lowest_most : (owners : List ℕ) → lowest_free owners ≤ length owners
unfolding lowest_free
lowest_most [] = omega arith
lowest_most (owner ∷ owners) = go (eqb owner free) (lowest_most owners)
  where
    go : (t : Bool) → lowest_free owners ≤ length owners → cond t 0 (suc (lowest_free owners)) ≤ suc (length owners)
    go true later = omega arith
    go false later = omega arith

-- it is free ..
pub get_or-lowest_free : (owners : List ℕ) → get_or owners (lowest_free owners) free ≡ free
unfolding lowest_free
get_or-lowest_free [] = refl
get_or-lowest_free (owner ∷ owners) = go (eqb owner free) refl (get_or-lowest_free owners)
  where
    go : (t : Bool) → eqb owner free ≡ t → get_or owners (lowest_free owners) free ≡ free
        → get_or (owner ∷ owners) (cond t 0 (suc (lowest_free owners))) free ≡ free
    go true is later = eqb-true owner free is
    go false is later = later

-- .. and none below it is
pub lower_taken : (owners : List ℕ) (k : ℕ) → k < lowest_free owners → get_or owners k free ≢ free
unfolding lowest_free
lower_taken [] k h = absurd (omega arith)
lower_taken (owner ∷ owners) k h = go (eqb owner free) refl k h (λ j. lower_taken owners j)
  where
    go : (t : Bool) → eqb owner free ≡ t → (k : ℕ) → k < cond t 0 (suc (lowest_free owners))
        → ((j : ℕ) → j < lowest_free owners → get_or owners j free ≢ free) → get_or (owner ∷ owners) k free ≢ free
    go true is k below later = absurd (omega arith)
    go false is zero below later = eqb-false owner free is
    go false is (suc j) below later = later j (omega arith)

-- a search from the front stops there
stops_lowest : (owners : List ℕ) → position_or_len (λ owner. eqb owner free) owners ≡ lowest_free owners
unfolding lowest_free
stops_lowest [] = refl
stops_lowest (owner ∷ owners) = go (eqb owner free) (stops_lowest owners)
  where
    go : (t : Bool) → position_or_len (λ k. eqb k free) owners ≡ lowest_free owners
        → cond (not t) (1 + position_or_len (λ k. eqb k free) owners) 0 ≡ cond t 0 (suc (lowest_free owners))
    go true e = refl
    go false e = omega (arith, e)

module _ (owners : List ℕ) where
  told : free_place owners ≡ cond (ltb (lowest_free owners) (length owners)) (Some (lowest_free owners)) None
  told = rw (stops_lowest owners)

  -- where it finds a place, that is the lowest free one, and no add is told FULL
  pub record Found (place : ℕ) : Type 0 where
    pub lowest : place ≡ lowest_free owners
    pub there : place < length owners
    pub room : full_answer owners ≡ Accepted

  pub found : {place : ℕ} → free_place owners ≡ Some place → Found place
  unfolding full_answer
  found {place} e = by (dec_lt (lowest_free owners) (length owners))
    where
      by : Dec (lowest_free owners < length owners) → Found place
      by (yes h) =
          let s : Some place ≡ Some (lowest_free owners) = sym e ∙ told ∙ rw (lt-ltb _ _ h) in
          let lowest : place ≡ lowest_free owners = cc in
          record { lowest = lowest; there = omega arith; room = rw (lt-leb _ _ h) }
      by (no h) =
          let s : Some place ≡ None = sym e ∙ told ∙ rw (le-ltb (lowest_free owners) (length owners) (omega arith)) in
          absurd (cc)

  -- where it finds none, FULL is told
  pub full : free_place owners ≡ None → full_answer owners ≡ Refused Full 0
  unfolding full_answer
  full e = by (dec_lt (lowest_free owners) (length owners))
    where
      by : Dec (lowest_free owners < length owners) → refuse_if (leb (length owners) (lowest_free owners)) Full 0 ≡ Refused Full 0
      by (yes h) =
          let s : Some (lowest_free owners) ≡ None = sym (told ∙ rw (lt-ltb _ _ h)) ∙ e in
          absurd (cc)
      by (no h) = rw (le-leb (length owners) (lowest_free owners) (omega arith))

-- FULL is not answered only where a place is free
pub room : (owners : List ℕ) → full_answer owners ≡ Accepted → lowest_free owners < length owners
unfolding full_answer
room owners h = leb-false _ _ (not_refused (leb (length owners) (lowest_free owners)) Full 0 h)

-- ---- what the acceptance of a call says

pub record Adds (S : Study) (office : ℕ) (e : List ℕ) : Type 0 where
  pub study : Whole S
  pub someone : office ≢ free
  pub fine : judged e ≡ Accepted
  pub place : lowest_free S.owners < place_count

pub adds : (S : Study) (office : ℕ) (e : List ℕ) → add_answer S office e ≡ Accepted → Adds S office e
unfolding add_answer may_add add_owner
adds S office e accepted =
    let all = both_accepted (may_add S office e) (full_answer S.owners) accepted in
    let one = both_accepted (study_size S) _ all.0 in
    let two = both_accepted (size_answer e) _ one.1 in
    let three = both_accepted (add_owner office) (judged e) two.1 in
    record {
      study = whole S one.0;
      someone = eqb-false office free (not_refused (eqb office free) Owner 0 three.0);
      fine = three.1;
      place = omega (arith, room S.owners all.1, (whole S one.0).owners);
    }

-- past what does not go by the places, an add is accepted where one is free, and else told FULL
module _ (S : Study) (office : ℕ) (e : List ℕ) (may : may_add S office e ≡ Accepted) where
  pub add_accepted : {place : ℕ} → free_place S.owners ≡ Some place → add_answer S office e ≡ Accepted
  unfolding add_answer
  add_accepted some = rw (may, (found S.owners some).room)

  pub add_full : free_place S.owners ≡ None → add_answer S office e ≡ Refused Full 0
  unfolding add_answer
  add_full none = rw (may, full S.owners none)

pub record Amends (S : Study) (office s i v : ℕ) : Type 0 where
  pub study : Whole S
  pub entry : i < entry_count
  pub own : owns S.owners office s ≡ true
  pub fine : judged (set (block_at S.blocks s) i v) ≡ Accepted

pub amends : (S : Study) (office s i v : ℕ) → amend_site_answer S office s i v ≡ Accepted → Amends S office s i v
unfolding amend_site_answer
amends S office s i v accepted =
    let one = both_accepted (study_size S) _ accepted in
    let two = both_accepted (entry_answer i) _ one.1 in
    let three = both_accepted (site_owner S.owners office s) _ two.1 in
    record {
      study = whole S one.0;
      entry = entry_accepted i two.0;
      own = site_accepted S.owners office s three.0;
      fine = three.1;
    }

pub record Reads (S : Study) (office s : ℕ) (d : List ℕ) : Type 0 where
  pub study : Whole S
  pub cells : length d ≡ sheet_count Junction
  pub own : owns S.owners office s ≡ true
  pub fine : judged (block_at S.blocks s) ≡ Accepted

pub reads : (S : Study) (office s : ℕ) (d : List ℕ) → read_answer S office s d ≡ Accepted → Reads S office s d
unfolding read_answer
reads S office s d accepted =
    let one = both_accepted (study_size S) _ accepted in
    let two = both_accepted (sheet_answer Junction d) _ one.1 in
    let three = both_accepted (site_owner S.owners office s) _ two.1 in
    record {
      study = whole S one.0;
      cells = sheet_accepted Junction d two.0;
      own = site_accepted S.owners office s three.0;
      fine = three.1;
    }

-- and what makes a reading accepted
pub read_accepted : (S : Study) (office s : ℕ) (d : List ℕ) → Reads S office s d → read_answer S office s d ≡ Accepted
unfolding read_answer sheet_answer
read_accepted S office s d r =
    rw (whole_accepted S r.study, eq-eqb _ _ r.cells, own_accepted S.owners office s r.own) r.fine

-- of an office's own site a reading is judged by the block alone
pub read_judged :
    (S : Study) (office s : ℕ) (d : List ℕ) → Whole S → owns S.owners office s ≡ true → length d ≡ sheet_count Junction
    → read_answer S office s d ≡ judged (block_at S.blocks s)
unfolding read_answer sheet_answer
read_judged S office s d study own cells = rw (whole_accepted S study, eq-eqb _ _ cells, own_accepted S.owners office s own)
