-- Local respect: a call of one office leaves the study as it was to any other.
use mathlib.Core.Path.{◌≡◌, refl, sym, ap, ◌∙◌}
use mathlib.Core.Logic.{◌≢◌}
use mathlib.Core.List.{List}
use Prim.Native.Nat.{ℕ}
use native.Mathlib.Decide.{ℕ_discrete}
use lib.ListN.{length, length-set}
use Rattle.answers.specs.Answers.{left_by}
use Rattle.answers.specs.declared.Answer.{Answer}
use Rattle.answers.specs.declared.Answer.TheVariants.{Accepted, Refused}
use Rattle.layout.specs.Open.{block_place}
use Rattle.open_rules.specs.Open.{Study, study, owns, lowest_free, add_answer, with_site, added, amend_site_answer, with_entry, amended_blocks}
use Rattle.open_rules.proofs.Blocks.{unamended_block}
use Rattle.open_rules.proofs.Laws.{Adds, adds, amends}
use Rattle.open_theorems.specs.Calls.{Call, Add, Amend, Read, caller, next}
use Rattle.open_theorems.specs.Separation.{Alike}
use Rattle.open_theorems.proofs.Owners.{one_owner, own_taken, grown, grown-owners, grown-blocks}
use Rattle.open_theorems.proofs.Owners.{place_was_free, place_not_others, others_as_before, block_elsewhere}

pub alike_same : (o : ℕ) (S : Study) → Alike o S S
alike_same o S = record { owners_long = refl; blocks_long = refl; places = λ s. refl; entries = λ s h. refl }

pub alike_then : {o : ℕ} {S T U : Study} → Alike o S T → Alike o T U → Alike o S U
alike_then a b =
    record {
      owners_long = a.owners_long ∙ b.owners_long;
      blocks_long = a.blocks_long ∙ b.blocks_long;
      places = λ s. a.places s ∙ b.places s;
      entries = λ s h. a.entries s h ∙ b.entries s (sym (a.places s) ∙ h);
    }

pub alike_back : {o : ℕ} {S T : Study} → Alike o S T → Alike o T S
alike_back a =
    record {
      owners_long = sym a.owners_long;
      blocks_long = sym a.blocks_long;
      places = λ s. sym (a.places s);
      entries = λ s h. sym (a.entries s (a.places s ∙ h));
    }

-- what a call leaves, by its answer
pub add_leaves :
    (S : Study) (office : ℕ) (e : List ℕ) {answer : Answer} → add_answer S office e ≡ answer
    → added S office e ≡ left_by answer (with_site S (lowest_free S.owners) office e) S
unfolding added
add_leaves S office e told = rw told

pub amend_leaves :
    (S : Study) (office s i v : ℕ) {answer : Answer} → amend_site_answer S office s i v ≡ answer
    → amended_blocks S office s i v ≡ left_by answer (with_entry S.blocks s i v) S.blocks
unfolding amended_blocks
amend_leaves S office s i v told = rw told

-- an entry changed in a block keeps the number of entries
pub entry_long : (blocks : List ℕ) (s i v : ℕ) → length (with_entry blocks s i v) ≡ length blocks
unfolding with_entry
entry_long blocks s i v = length-set blocks (block_place s i) v

module _ (o : ℕ) (S : Study) where
  grown_alike : (office : ℕ) (e : List ℕ) (a : Adds S office e) → office ≢ o → Alike o S (grown S office e a)
  grown_alike office e a other =
      record {
        owners_long = sym (grown-owners S office e a);
        blocks_long = sym (grown-blocks S office e a);
        places = λ s. by s (ℕ_discrete s (lowest_free S.owners));
        entries = λ s mine. sym (block_elsewhere S office e a s (own_taken S.owners o s mine));
      }
    where
      by : (s : ℕ) → Dec (s ≡ lowest_free S.owners) → owns S.owners o s ≡ owns (grown S office e a).owners o s
      by s (yes here) = rw here (place_was_free S office e a o ∙ sym (place_not_others S office e a o other))
      by s (no apart) = sym (others_as_before S office e a o s apart)

  add_respects : (office : ℕ) (e : List ℕ) → office ≢ o → (answer : Answer) → add_answer S office e ≡ answer → Alike o S (added S office e)
  add_respects office e other (Refused why place) told = rw (add_leaves S office e told) (alike_same o S)
  add_respects office e other Accepted told = rw (add_leaves S office e told) (grown_alike office e (adds S office e told) other)

  amend_respects : (office s i v : ℕ) → office ≢ o → (answer : Answer) → amend_site_answer S office s i v ≡ answer
      → Alike o S (study S.owners (amended_blocks S office s i v))
  amend_respects office s i v other (Refused why place) told = rw (amend_leaves S office s i v told) (alike_same o S)
  amend_respects office s i v other Accepted told =
      let a = amends S office s i v told in
      rw (amend_leaves S office s i v told)
      record {
        owners_long = refl;
        blocks_long = sym (entry_long S.blocks s i v);
        places = λ p. refl;
        entries = λ p mine.
            sym (unamended_block S.blocks p s i v a.entry
            (λ e. other (one_owner S.owners office o s a.own (ap (owns S.owners o) (sym e) ∙ mine))));
      }

  -- LOCAL RESPECT: what another office calls leaves the study as it was to this one
  pub respects : (c : Call) → caller c ≢ o → Alike o S (next S c)
  respects (Add office e before) other = add_respects office e other (add_answer S office e) refl
  respects (Amend office s i v) other = amend_respects office s i v other (amend_site_answer S office s i v) refl
  respects (Read office s d) other = alike_same o S
