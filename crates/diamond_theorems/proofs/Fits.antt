-- Every cell of an acceptable record fits 32 bits: none is above BLANK.
use mathlib.Core.Path.{◌≡◌, refl}
use mathlib.Core.Bool.{Bool}
use mathlib.Core.List.{List, [], ◌∷◌, ◌++◌}
use Prim.Native.Nat.{ℕ, zero, suc, ◌≤◌}
use native.Mathlib.Omega.{arith}
use lib.Dec.{lit≤}
use lib.ListN.{get_or}
use Rattle.answers.specs.declared.Answer.TheVariants.{Accepted}
use Rattle.layout.specs.Sheet.{BLANK}
use Rattle.layout.specs.Diamond.{plan_pick, best_cell}
use Rattle.entries.specs.Layout.{cycle}
use Rattle.procedure.proofs.Fair.{fair_cycle}
use Rattle.line_bounds.specs.Bounds.{most_adjusted, most_required, most_icu}
use Rattle.line_bounds.proofs.Numbers.{chosen_most}
use Rattle.line_bounds.proofs.Lines.{Under, none, ◌&◌, under_fits}
use Rattle.sheet.proofs.Fits.{icu_most, letter_of_most}
use Rattle.diamond_rules.specs.declared.Side.{Side}
use Rattle.diamond_rules.specs.Record.{west, travel, judged_record}
use Rattle.diamond_rules.specs.Lines.{isolated, alternate, combined, overlap, if_allowed, lagging_allowed, lead_lag_allowed}
use Rattle.diamond_rules.specs.Lines.{west_side, east_side, times_of, sides_of, best_of, plans_of, diamond}
use Rattle.diamond_rules.proofs.Laws.{west_accepted}
use Rattle.diamond_rules.proofs.Plans.{overlap_most}
use Rattle.diamond_plans.specs.Working.{SmallSide}
use Rattle.diamond_plans.proofs.Laws.{entering_most, ramp_most}
use Rattle.diamond.proofs.Bounds.{west_small, east_small}
use Rattle.diamond_theorems.specs.Best.{allowed, takes}
use Rattle.diamond_theorems.proofs.Best.{leading_most, isolated_plan_most, best_picked}

-- what each of the cells is at most: the sides' times, what is made of them, and the plans
abbrev most_side : List ℕ
most_side = most_adjusted ∷ most_adjusted ∷ most_adjusted ∷ most_adjusted ∷ most_adjusted ∷ most_adjusted ∷ most_adjusted ∷ []

abbrev most_sides : List ℕ
most_sides =
    most_required ∷ most_required ∷ most_required ∷ most_required ∷ most_required ∷ most_required ∷ most_adjusted ∷ most_adjusted ∷ []

abbrev most_plans : List ℕ
most_plans = most_required ∷ BLANK ∷ BLANK ∷ 2 ∷ most_required ∷ most_icu ∷ 7 ∷ []

-- limits one after the other
joined : {ms ns xs ys : List ℕ} → Under ms xs → Under ns ys → Under (ms ++ ns) (xs ++ ys)
joined none v = v
joined (h & u) v = h & joined u v

times_of_most : (s : Side) → SmallSide s → Under most_side (times_of s)
times_of_most s h = h.through & h.right & h.onramp & h.inner & h.rampleft & h.rampthrough & h.rampright & none

isolated_small : (s : Side) → SmallSide s → isolated s ≤ most_required
unfolding isolated
isolated_small s h = omega (arith, entering_most s h, h.onramp, h.rampleft, h.rampthrough)

alternate_small : (s : Side) → SmallSide s → alternate s ≤ most_required
unfolding alternate
alternate_small s h = omega (arith, ramp_most s h, h.inner)

combined_small : (s : Side) → SmallSide s → combined s ≤ most_required
unfolding combined
combined_small s h = omega (arith, isolated_small s h, alternate_small s h)

overlap_small : (t_t : ℕ) (s : Side) → SmallSide s → overlap t_t s ≤ most_adjusted
overlap_small t_t s h = omega (arith, (overlap_most t_t s).1, entering_most s h)

sides_most : (t_t : ℕ) (w e : Side) → SmallSide w → SmallSide e → Under most_sides (sides_of t_t w e)
unfolding sides_of
sides_most t_t w e h k =
    isolated_small w h & isolated_small e k & alternate_small w h & alternate_small e k & combined_small w h & combined_small e k
    & overlap_small t_t w h & overlap_small t_t e k & none

-- a plan that takes no longer, or BLANK
if_most : (allowed : Bool) {x : ℕ} → x ≤ most_required → if_allowed allowed x ≤ BLANK
if_most allowed h = chosen_most allowed (λ yes. omega (arith, h)) (λ no. lit≤ tt)

module _ (r : List ℕ) (ok : judged_record r ≡ Accepted) where
  takes_most : (k : ℕ) → takes r k ≤ most_required
  takes_most zero = leading_most r ok
  takes_most (suc k) = isolated_plan_most r ok

  plans_most : Under most_plans (plans_of r (west_side r) (east_side r))
  unfolding plans_of best_of diamond sides_of
  plans_most =
      let picks = best_picked r ok in
      let best : get_or (diamond r) best_cell 0 ≤ most_required = omega (arith, picks.time, takes_most (get_or (diamond r) plan_pick 0)) in
      let pick : get_or (diamond r) plan_pick 0 ≤ 2 = omega (arith, picks.few) in
      leading_most r ok & if_most (lagging_allowed r) (isolated_plan_most r ok) & if_most (lead_lag_allowed r) (isolated_plan_most r ok)
      & pick & best & icu_most _ (cycle (west r)) best (fair_cycle (west r) (west_accepted r ok)) & letter_of_most _ & none

  pub diamond_fits : (k : ℕ) → get_or (diamond r) k 0 ≤ BLANK
  unfolding diamond
  diamond_fits k =
      let w = west_small r ok in
      let e = east_small r ok in
      under_fits (most_side ++ most_side ++ (most_sides ++ most_plans)) refl
      (joined (joined (times_of_most (west_side r) w) (times_of_most (east_side r) e)) (joined (sides_most (travel r) (west_side r) (east_side r) w e) plans_most)) k
