-- What BLANK means in the totals of a pair: on acceptable entries a total is BLANK only where its option is not allowed.
use mathlib.Core.Path.{◌≡◌, refl}
use mathlib.Core.Logic.{◌⊎◌, inl, inr}
use mathlib.Core.Bool.{Bool, true, false, ◌||◌}
use mathlib.Core.List.{List}
use Prim.Native.Nat.{ℕ, ◌≤◌, ◌<◌}
use native.Mathlib.Omega.{arith}
use lib.Dec.{eqb, lit≤}
use lib.ListN.{get_or}
use borrow.Author.Tests.{eqb-true, eqb-false}
use Rattle.answers.specs.declared.Answer.TheVariants.{Accepted}
use Rattle.entries.specs.Judging.{judged_for, judged}
use Rattle.procedure.specs.Approach.{read_approach, is_shared}
use Rattle.layout.specs.declared.Worksheet.TheVariants.{Junction, Point}
use Rattle.layout.specs.Entries.{approach_count}
use Rattle.layout.specs.Sheet.{BLANK}
use Rattle.procedure.specs.Pairs.{line, protected, permitted, split, pair, pair_for}
use Rattle.procedure.specs.Sheet.{lines_at, pair_at}
use Rattle.line_bounds.specs.Bounds.{Bounded}
use Rattle.line_bounds.proofs.Permitted.{timely_fits}
use Rattle.sheet_pairs.proofs.Laws.{protected_most}
use Rattle.sheet.proofs.Laws.{unshared}
use Rattle.sheet.proofs.Fits.{bounded_at}

module _ (x y : List ℕ) (bx : Bounded x) (by : Bounded y) where
  protected_blank : (shared : Bool) → protected shared x y ≡ BLANK → shared ≡ true
  unfolding protected
  protected_blank true e = refl
  protected_blank false e = absurd (omega (arith, e, bx.line16, bx.line17, by.line16, by.line17))

  permitted_blank : permitted x y ≡ BLANK → (line 26 x ≡ BLANK) ⊎ (line 26 y ≡ BLANK)
  unfolding permitted
  permitted_blank e = go (eqb (line 26 x) BLANK) (eqb (line 26 y) BLANK) refl refl
    where
      go : (a b : Bool) → eqb (line 26 x) BLANK ≡ a → eqb (line 26 y) BLANK ≡ b → (line 26 x ≡ BLANK) ⊎ (line 26 y ≡ BLANK)
      go true b ha hb = inl (eqb-true _ _ ha)
      go false true ha hb = inr (eqb-true _ _ hb)
      go false false ha hb =
          let first : line 26 x ≤ BLANK = timely_fits (lit≤ tt) bx.line26 in
          let second : line 26 y ≤ BLANK = timely_fits (lit≤ tt) by.line26 in
          absurd (omega (arith, rw (ha, hb) at e, first, second, eqb-false (line 26 x) BLANK ha, eqb-false (line 26 y) BLANK hb))

  split_time : split x y < BLANK
  unfolding split
  split_time = omega (arith, bx.line28, by.line28)

-- the totals of a junction's pair of approaches a and o: protected, permitted, split
pub record PairBlank (e : List ℕ) (a o : ℕ) : Type 0 where
  pub protected : get_or (pair_at Junction e a o) 0 0 ≡ BLANK → (is_shared (read_approach e a) || is_shared (read_approach e o)) ≡ true
  pub permitted : get_or (pair_at Junction e a o) 1 0 ≡ BLANK → (line 26 (lines_at Junction e a o) ≡ BLANK) ⊎ (line 26 (lines_at Junction e o a) ≡ BLANK)
  pub split : get_or (pair_at Junction e a o) 2 0 < BLANK

pub pair_blank : (e : List ℕ) → judged e ≡ Accepted → (a o : ℕ) → a < approach_count → o < approach_count → PairBlank e a o
unfolding pair_at pair_for pair
pair_blank e ok a o h p =
    let x = lines_at Junction e a o in
    let y = lines_at Junction e o a in
    let first = bounded_at Junction e ok a o h in
    let second = bounded_at Junction e ok o a p in
    record {
      protected = protected_blank x y first second _;
      permitted = permitted_blank x y first second;
      split = split_time x y first second;
    }

-- and of a single point's one total: it is a time
pub point_times : (e : List ℕ) → judged_for Point e ≡ Accepted → (a o : ℕ) → a < approach_count → o < approach_count → get_or (pair_at Point e a o) 0 0 < BLANK
unfolding pair_at pair_for
point_times e ok a o h p =
    rw (unshared Point e ok a h refl, unshared Point e ok o p refl)
    (omega (arith, protected_most false (lines_at Point e a o) (lines_at Point e o a) (bounded_at Point e ok a o h) (bounded_at Point e ok o a p)))
