-- Laws of a file's judgement: of a field, of a format's places, and what a file has that is accepted.
use Prim.Native.Nat.{ℕ, suc, ◌+◌, ◌-◌, ◌*◌, ◌<◌, ◌≤◌, ◌^◌}
use mathlib.Core.Path.{◌≡◌, refl, sym, ap, ◌∙◌}
use mathlib.Core.Bool.{Bool, true, false, ◌&&◌, not}
use mathlib.Core.List.{List, [], ◌∷◌}
use lib.ListN.{length, take, drop, length-drop}
use lib.Seq.{length-take-le}
use lib.Dec.{ltb, leb, eqb}
use borrow.Author.Tests.{ltb-false, leb-false, le-ltb, eqb-true, eq-eqb, not-false}
use native.Mathlib.Nat.{mul-le-mul, mul-le-mul_left, zero-add}
use native.Mathlib.Decide.{dec_lt}
use native.Mathlib.Omega.{arith}
use Rattle.std.proofs.lemmas.Bool.Decides.{nat_tests}
use Rattle.std.specs.Cmp.Lexicographic.{pointwise}
use Rattle.std.specs.Coded.{Coded-set, coded_ℕ, le_prop}
use Rattle.lists.proofs.Tests.{both_true}
use Rattle.study_numbers.specs.Numbers.{number_bytes, number_limit, number_at}
use Rattle.answers.specs.Answers.{◌then◌, refuse_if}
use Rattle.answers.specs.declared.Refusal.TheVariants.{File}
use Rattle.answers.specs.declared.Answer.{Answer}
use Rattle.answers.specs.declared.Answer.TheVariants.{Accepted}
use Rattle.answers.proofs.Laws.{go_on, both_accepted, not_refused, accepts, each_accepted, all_accepted}
use Rattle.study_format.specs.declared.Format.{Format}
use Rattle.study_format.specs.Fields.{count_place, offsets_place, sites_of, offset_place, starts_with, whole, field}
use Rattle.study_format.specs.Format.{block_bytes, block_place, file_bytes, opening_field, count_field, offset_field, offset_fields, ending, judgement}
use Rattle.study_format.specs.Format.{site_answer, site_block}

-- the opening, byte after byte

turned : (a b : ℕ) → eqb a b ≡ eqb b a
turned a b = grind (arith, nat_tests)

-- the library's test of the front
pub start_is : (file bytes : List ℕ) → starts_with file bytes ≡ pointwise eqb bytes (take (length bytes) file)
unfolding starts_with
start_is file [] = refl
start_is [] (byte ∷ bytes) = refl
start_is (first ∷ file) (byte ∷ bytes) = rw (turned first byte, start_is file bytes)

-- bytes begin with others where those stand at their front, and so with no two of the same length
pub take_of_starts_with : (file bytes : List ℕ) → starts_with file bytes ≡ true → take (length bytes) file ≡ bytes
unfolding starts_with
take_of_starts_with file [] e = refl
take_of_starts_with [] (byte ∷ bytes) e = absurd (let z : ◌≡◌ {A = ℕ} 0 1 = cc in omega arith)
take_of_starts_with (first ∷ file) (byte ∷ bytes) e =
    let both = both_true (eqb first byte) (starts_with file bytes) e in
    rw (eqb-true first byte both.0, take_of_starts_with file bytes both.1)

pub other_opening : (file one other : List ℕ) → length one ≡ length other → (one ≡ other → ⊥) → starts_with file one ≡ true → starts_with file other ≡ false
other_opening file one other alike differ first = go (starts_with file other) refl
  where
    go : (t : Bool) → starts_with file other ≡ t → t ≡ false
    go true second = absurd (differ (sym (take_of_starts_with file one first) ∙ ap (λ n. take n file) alike ∙ take_of_starts_with file other second))
    go false second = refl

-- what is shorter than an opening does not begin with it
pub too_short : (file bytes : List ℕ) → length file < length bytes → starts_with file bytes ≡ false
unfolding starts_with
too_short file [] h = absurd (omega arith)
too_short [] (byte ∷ bytes) h = refl
too_short (first ∷ file) (byte ∷ bytes) h = go (eqb first byte) (too_short file bytes (omega arith))
  where
    go : (t : Bool) → starts_with file bytes ≡ false → (t && starts_with file bytes) ≡ false
    go true rest = rest
    go false rest = refl

pub long_enough : (file bytes : List ℕ) → starts_with file bytes ≡ true → length bytes ≤ length file
long_enough file bytes opened = go (dec_lt (length file) (length bytes))
  where
    go : Dec (length file < length bytes) → length bytes ≤ length file
    go (yes short) = absurd (let z : ◌≡◌ {A = Bool} true false = sym opened ∙ too_short file bytes short in let n : ◌≡◌ {A = ℕ} 0 1 = cc in omega arith)
    go (no enough) = omega arith

-- a field that is not cut short lies within the file

pub field_fits : {r : Answer} (file : List ℕ) (at : ℕ) → r ≡ whole file at → r ≡ Accepted → at + number_bytes ≤ length file
field_fits file at is e = ltb-false _ _ (not_refused (ltb (length file) (at + number_bytes)) File (length file) (sym is ∙ e))

module _ (file : List ℕ) (at : ℕ) (wrong : Bool) where
  pub field_accepted : field file at wrong ≡ Accepted → (at + number_bytes ≤ length file) × (wrong ≡ false)
  field_accepted e =
      let both = both_accepted (whole file at) (refuse_if wrong File at) e in
      (ltb-false _ _ (not_refused (ltb (length file) (at + number_bytes)) File (length file) both.0), not_refused wrong File at both.1)

  field_right : at + number_bytes ≤ length file → wrong ≡ false → field file at wrong ≡ Accepted
  field_right h e = go_on _ (accepts File (length file) (le-ltb (length file) (at + number_bytes) h)) ∙ accepts File at e

-- formats of the same fields are the same: each fact of theirs has one proof
pub same_format : (opening : List ℕ) (entries most : ℕ) (a a' : length opening ≡ number_bytes) (b b' : 0 < entries) (c c' : 0 < most)
    (d d' : offset_place most + number_bytes * entries * most < number_limit)
    → ◌≡◌ {A = Format}
    (record { opening = opening; entries = entries; most = most; opening_long = a; some_entries = b; some_sites = c; fits = d })
    (record { opening = opening; entries = entries; most = most; opening_long = a'; some_entries = b'; some_sites = c'; fits = d' })
same_format opening entries most a a' b b' c c' d d' =
    let of : length opening ≡ number_bytes → 0 < entries → 0 < most → offset_place most + number_bytes * entries * most < number_limit → Format =
    λ x y z w. record { opening = opening; entries = entries; most = most; opening_long = x; some_entries = y; some_sites = z; fits = w } in
    ap (λ x. of x b c d) (Coded-set coded_ℕ (length opening) number_bytes a a')
    ∙ ap (λ y. of a' y c d) (le_prop b b')
    ∙ ap (λ z. of a' b' z d) (le_prop c c')
    ∙ ap (λ w. of a' b' c' w) (le_prop d d')

module _ (f : Format) where
  -- no place in a file is past the end of the largest one
  pub within_largest : (k j : ℕ) → k ≤ f.most → j ≤ k → block_place f k j ≤ file_bytes f f.most
  within_largest k j few below = omega (arith, mul-le-mul_left {m = j} {n = f.most} (block_bytes f) (omega arith))

  -- so that it is a number that a file can hold
  pub places_fit : (k j : ℕ) → k ≤ f.most → j ≤ k → block_place f k j < number_limit
  places_fit k j few below = omega (arith, within_largest k j few below, f.fits)

  pub block_fits : block_bytes f + offset_place 1 < number_limit
  block_fits = omega (arith, mul-le-mul_left {m = 1} {n = f.most} (block_bytes f) f.some_sites, f.fits)

  -- the sums that lead to a place fit 64 bits, for any number of sites
  pub sums_fit : (k j : ℕ) → k < number_limit → j ≤ k → block_place f k j < 2 ^ 64
  sums_fit k j few below =
      let small : block_bytes f + number_bytes ≤ number_limit - offsets_place = omega (arith, block_fits) in
      omega (arith, mul-le-mul_left {m = j} {n = k} (block_bytes f) below, mul-le-mul {n₁ = block_bytes f + number_bytes} {m₁ = suc k} small few)

  -- what an accepted file has

  pub count_accepted : (file : List ℕ) → count_field f file ≡ Accepted → (offsets_place ≤ length file) × (sites_of file ≤ f.most)
  count_accepted file e =
      let both = field_accepted file count_place (ltb f.most (sites_of file)) e in
      (both.0, ltb-false f.most (sites_of file) both.1)

  offset_accepted : (file : List ℕ) (k j : ℕ) → offset_field f file k j ≡ Accepted → number_at file (offset_place j) ≡ block_place f k j
  offset_accepted file k j e =
      let right = eqb (number_at file (offset_place j)) (block_place f k j) in
      eqb-true (number_at file (offset_place j)) (block_place f k j) (not-false right (field_accepted file (offset_place j) (not right) e).1)

  ending_accepted : (file : List ℕ) (k : ℕ) → ending f file k ≡ Accepted → length file ≡ file_bytes f k
  ending_accepted file k e =
      let short = ltb (length file) (file_bytes f k) in
      let long = ltb (file_bytes f k) (length file) in
      let both = both_accepted (refuse_if short File (length file)) (refuse_if long File (file_bytes f k)) e in
      let least : file_bytes f k ≤ length file = ltb-false _ _ (not_refused short File (length file) both.0) in
      let most : length file ≤ file_bytes f k = ltb-false _ _ (not_refused long File (file_bytes f k) both.1) in
      omega arith

pub record WellLaidOut (f : Format) (file : List ℕ) : Type 0 where
  pub opened : starts_with file f.opening ≡ true
  pub few : sites_of file ≤ f.most
  pub offset : (j : ℕ) → j < sites_of file → number_at file (offset_place j) ≡ block_place f (sites_of file) j
  pub size : length file ≡ file_bytes f (sites_of file)

-- a site that a file has: its file is accepted, and its block lies within it
pub record HasSite (f : Format) (file : List ℕ) (site : ℕ) : Type 0 where
  pub good : WellLaidOut f file
  pub there : site < sites_of file
  pub within : block_place f (sites_of file) site + block_bytes f ≤ length file

module _ (f : Format) (file : List ℕ) where
  pub accepted : judgement f file ≡ Accepted → WellLaidOut f file
  unfolding judgement
  accepted e =
      let k = sites_of file in
      let first = both_accepted (opening_field f file) (count_field f file then offset_fields f file k then ending f file k) e in
      let second = both_accepted (count_field f file) (offset_fields f file k then ending f file k) first.1 in
      let third = both_accepted (offset_fields f file k) (ending f file k) second.1 in
      let opened = (field_accepted file 0 (not (starts_with file f.opening)) first.0).1 in
      record {
        opened = not-false (starts_with file f.opening) opened;
        few = (count_accepted f file second.0).1;
        offset = λ j h. offset_accepted f file k j (rw zero-add at (each_accepted (offset_field f file k) 0 k third.0 j h));
        size = ending_accepted f file k third.1;
      }

  pub has_site : (site : ℕ) → site_answer f file site ≡ Accepted → HasSite f file site
  has_site site e =
      let both = both_accepted (judgement f file) (refuse_if (leb (sites_of file) site) File count_place) e in
      let laid = accepted both.0 in
      let h : site < sites_of file = leb-false _ _ (not_refused (leb (sites_of file) site) File count_place both.1) in
      record { good = laid; there = h; within = omega (arith, mul-le-mul_left {m = suc site} (block_bytes f) h, laid.size) }

  pub length-site_block : (site : ℕ) → HasSite f file site → length (site_block f file site) ≡ block_bytes f
  length-site_block site h =
      length-take-le (block_bytes f) (drop (block_place f (sites_of file) site) file) (simp length-drop (omega (arith, h.within)))

  -- and what has all that is accepted
  pub laid_out : WellLaidOut f file → judgement f file ≡ Accepted
  unfolding judgement
  laid_out laid =
      let k = sites_of file in
      let offset_right : (j : ℕ) → j < k → offset_field f file k j ≡ Accepted = λ j h.
      let wrong = not (eqb (number_at file (offset_place j)) (block_place f k j)) in
      field_right file (offset_place j) wrong (omega (arith, laid.size)) (simp (eq-eqb _ _ (laid.offset j h))) in
      go_on _ (field_right file 0 (not (starts_with file f.opening)) (omega (arith, laid.size)) (simp laid.opened))
      ∙ go_on _ (field_right file count_place (ltb f.most k) (omega (arith, laid.size)) (le-ltb f.most k laid.few))
      ∙ go_on _ (all_accepted (offset_field f file k) 0 k (λ j from to. offset_right j (omega arith)))
      ∙ simp (
        le-ltb (length file) (file_bytes f k) (omega (arith, laid.size)),
        le-ltb (file_bytes f k) (length file) (omega (arith, laid.size)),
      )
