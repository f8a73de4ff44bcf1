-- Whose a place is, where owners change: only the lowest free place gets one, and it was nobody's.
use mathlib.Core.Path.{◌≡◌, refl, sym, ap, ◌∙◌}
use mathlib.Core.Logic.{◌≢◌}
use mathlib.Core.Bool.{Bool, true, false, not, and-false}
use mathlib.Core.List.{List}
use Prim.Native.Nat.{ℕ, ◌<◌}
use native.Mathlib.Omega.{arith}
use lib.Dec.{eqb}
use lib.ListN.{length, get_or, set, length-set}
use lib.Seq.{get_or-set_same, get_or-set_other}
use borrow.Author.Tests.{eq-eqb, ne_eqb, eqb-true, eqb-false}
use Rattle.lists.proofs.Laws.{length_over}
use Rattle.entries.proofs.Laws.{accepted_count}
use Rattle.layout.specs.Open.{block_from}
use Rattle.open_rules.specs.Open.{Study, free, owner_of, owns, block_at, lowest_free, with_site}
use Rattle.open_rules.proofs.Blocks.{written_block, other_block}
use Rattle.open_rules.proofs.Laws.{Adds, owned, owned_so, get_or-lowest_free}

-- whose a place is goes by its owner alone
pub owns_by : (one two : List ℕ) (o s : ℕ) → get_or one s free ≡ get_or two s free → owns one o s ≡ owns two o s
unfolding owns owner_of
owns_by one two o s same = rw same

-- a place with another owner is not the office's
pub not_owner : (owners : List ℕ) (o s : ℕ) → get_or owners s free ≢ o → owns owners o s ≡ false
unfolding owns owner_of
not_owner owners o s other = rw (ne_eqb _ _ other) (and-false (not (eqb o free)))

-- nor is any place that of an office whose number is a free place's
nobody : (owners : List ℕ) (o s : ℕ) → o ≡ free → owns owners o s ≡ false
unfolding owns owner_of
nobody owners o s zero = rw (eq-eqb o free zero)

-- a free place is nobody's
pub free_unowned : (owners : List ℕ) (o s : ℕ) → get_or owners s free ≡ free → owns owners o s ≡ false
free_unowned owners o s is = go (eqb o free) refl
  where
    go : (t : Bool) → eqb o free ≡ t → owns owners o s ≡ false
    go true zero = nobody owners o s (eqb-true o free zero)
    go false other = not_owner owners o s (λ e. eqb-false o free other (sym e ∙ is))

-- no place is two offices'
pub one_owner : (owners : List ℕ) (o u s : ℕ) → owns owners o s ≡ true → owns owners u s ≡ true → o ≡ u
one_owner owners o u s one two = sym (owned owners o s one).owner ∙ (owned owners u s two).owner

-- a place that is some office's is not the lowest free one
pub own_taken : (owners : List ℕ) (o s : ℕ) → owns owners o s ≡ true → s ≢ lowest_free owners
own_taken owners o s is e =
    let mine = owned owners o s is in
    mine.someone (sym mine.owner ∙ ap (λ k. get_or owners k free) e ∙ get_or-lowest_free owners)

-- with a new owner at place p: any other place is whose it was, and p is the new owner's alone
module _ (owners : List ℕ) (p office : ℕ) where
  pub owned_elsewhere : (o s : ℕ) → s ≢ p → owns (set owners p office) o s ≡ owns owners o s
  owned_elsewhere o s apart = owns_by (set owners p office) owners o s (get_or-set_other owners p s office free apart)

  pub owned_here : p < length owners → office ≢ free → owns (set owners p office) office p ≡ true
  owned_here h someone =
      owned_so (set owners p office) office p
      record { someone = someone; there = omega (arith, length-set owners p office); owner = get_or-set_same owners p office free h }

  pub not_here : (o : ℕ) → p < length owners → office ≢ o → owns (set owners p office) o p ≡ false
  not_here o h other = not_owner (set owners p office) o p (λ e. other (sym (get_or-set_same owners p office free h) ∙ e))

-- ---- a study with a site more

module _ (S : Study) (office : ℕ) (e : List ℕ) (a : Adds S office e) where
  -- where an accepted add puts its site, and the study then
  abbrev pub place : ℕ
  place = lowest_free S.owners

  abbrev pub grown : Study
  grown = with_site S place office e

  pub grown-owners : length grown.owners ≡ length S.owners
  unfolding with_site
  grown-owners = length-set S.owners place office

  pub grown-blocks : length grown.blocks ≡ length S.blocks
  unfolding with_site
  grown-blocks =
      length_over S.blocks (block_from place) e (omega (arith, a.study.blocks, a.place, accepted_count e a.fine))

  pub grown_place : place < length S.owners
  grown_place = omega (arith, a.study.owners, a.place)

  -- the place was nobody's, and is the office's
  pub place_was_free : (o : ℕ) → owns S.owners o place ≡ false
  place_was_free o = free_unowned S.owners o place (get_or-lowest_free S.owners)

  pub place_is_own : owns grown.owners office place ≡ true
  unfolding with_site
  place_is_own = owned_here S.owners place office grown_place a.someone

  pub place_not_others : (o : ℕ) → office ≢ o → owns grown.owners o place ≡ false
  unfolding with_site
  place_not_others o other = not_here S.owners place office o grown_place other

  pub others_as_before : (o s : ℕ) → s ≢ place → owns grown.owners o s ≡ owns S.owners o s
  unfolding with_site
  others_as_before o s apart = owned_elsewhere S.owners place office o s apart

  -- its block holds the entries, and the other blocks what they held
  pub block_here : block_at grown.blocks place ≡ e
  unfolding with_site
  block_here = written_block S.blocks e place a.study.blocks (accepted_count e a.fine) a.place

  pub block_elsewhere : (s : ℕ) → s ≢ place → block_at grown.blocks s ≡ block_at S.blocks s
  unfolding with_site
  block_elsewhere s apart = other_block S.blocks e s place a.study.blocks (accepted_count e a.fine) a.place apart
