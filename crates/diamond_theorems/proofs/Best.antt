-- The picked plan is allowed and none allowed takes less; and the subtractions of Table 6-4 take off what is there.
use mathlib.Core.Path.{◌≡◌, refl}
use mathlib.Core.Bool.{Bool, true, false, ◌&&◌}
use mathlib.Core.List.{List}
use Prim.Native.Nat.{ℕ, zero, suc, ◌≤◌, ◌<◌}
use native.Mathlib.Omega.{arith}
use lib.Dec.{leb, lit<}
use lib.ListN.{get_or}
use borrow.Author.Tests.{leb-true, leb-false, le-leb, lt-leb}
use Rattle.answers.specs.declared.Answer.TheVariants.{Accepted}
use Rattle.layout.specs.Sheet.{BLANK}
use Rattle.layout.specs.Diamond.{plan_count, plan_pick, best_cell}
use Rattle.kinds.proofs.Laws.{within}
use Rattle.procedure.specs.Pairs.{picked, by_pick}
use Rattle.line_bounds.specs.Bounds.{most_required}
use Rattle.diamond_rules.specs.declared.Side.{Side}
use Rattle.diamond_rules.specs.Record.{travel, judged_record}
use Rattle.diamond_rules.specs.Lines.{isolated, alternate, combined, leading_alternate, isolated_plan, if_allowed, lagging_allowed, lead_lag_allowed}
use Rattle.lists.proofs.Tests.{both_true}
use Rattle.diamond_rules.specs.Lines.{fits, west_side, east_side, sides_of, best_of, plans_of, diamond}
use Rattle.diamond_rules.proofs.Laws.{travel_accepted}
use Rattle.diamond_rules.proofs.Plans.{overlap-held}
use Rattle.diamond_plans.specs.Working.{SmallSide}
use Rattle.diamond_plans.proofs.Laws.{entering_most, ramp_most, held_most}
use Rattle.diamond.proofs.Bounds.{west_small, east_small}
use Rattle.diamond_theorems.specs.Best.{allowed_by, takes_by, Picks, allowed, takes, NothingLost}

pub nothing_lost : (t_t : ℕ) (w e : Side) → NothingLost t_t w e
unfolding leading_alternate
nothing_lost t_t w e = omega (arith, overlap-held t_t e w, overlap-held t_t w e)

-- how long a plan of small sides is at most
pub isolated_most : (w e : Side) → SmallSide w → SmallSide e → isolated_plan w e ≤ most_required
unfolding isolated_plan combined isolated alternate
isolated_most w e h k =
    omega (
      arith,
      entering_most w h,
      entering_most e k,
      ramp_most w h,
      ramp_most e k,
      h.onramp,
      k.onramp,
      h.inner,
      k.inner,
      h.rampleft,
      k.rampleft,
      h.rampthrough,
      k.rampthrough,
    )

-- the least of the three, where BLANK is larger than any time
module _ (leading isolated : ℕ) (h : leading < BLANK) (k : isolated < BLANK) where
  pick : Bool → Bool → ℕ
  pick lagging lead_lag = picked leading (if_allowed lagging isolated) (if_allowed lead_lag isolated)

  -- leading alternate, where it takes no more
  first : (lagging lead_lag : Bool) → (lagging ≡ true → leading ≤ isolated) → (lead_lag ≡ true → leading ≤ isolated)
      → Picks (allowed_by lagging lead_lag) (takes_by leading isolated) 0 leading
  first lagging lead_lag x y =
      record { few = lit< tt; allows = refl; time = refl; least = none_less; earlier = λ j m. absurd (omega arith) }
    where
      none_less : (j : ℕ) → j < plan_count → allowed_by lagging lead_lag j ≡ true → leading ≤ takes_by leading isolated j
      none_less zero m a = omega arith
      none_less (suc zero) m a = x a
      none_less (suc (suc j)) m a = y a

  -- one of the others, where leading alternate takes more and no earlier one is allowed
  later : (lagging lead_lag : Bool) → isolated < leading → (p : ℕ) → p < plan_count → 0 < p → allowed_by lagging lead_lag p ≡ true
      → ((j : ℕ) → 0 < j → j < p → allowed_by lagging lead_lag j ≡ true → ⊥)
      → Picks (allowed_by lagging lead_lag) (takes_by leading isolated) p isolated
  later lagging lead_lag less p few some ok none =
      record { few = few; allows = ok; time = its p some; least = none_less; earlier = before }
    where
      its : (j : ℕ) → 0 < j → isolated ≡ takes_by leading isolated j
      its zero m = absurd (omega arith)
      its (suc j) m = refl

      none_less : (j : ℕ) → j < plan_count → allowed_by lagging lead_lag j ≡ true → isolated ≤ takes_by leading isolated j
      none_less zero m a = omega arith
      none_less (suc j) m a = omega arith

      before : (j : ℕ) → j < p → allowed_by lagging lead_lag j ≡ true → isolated < takes_by leading isolated j
      before zero m a = less
      before (suc j) m a = absurd (none (suc j) (omega arith) m a)

  abbrev Picked : Bool → Bool → Type 0
  Picked x y =
      let p = picked leading (if_allowed x isolated) (if_allowed y isolated) in
      Picks (allowed_by x y) (takes_by leading isolated) p (by_pick p leading (if_allowed x isolated) (if_allowed y isolated))

  blank : leb leading BLANK ≡ true
  blank = le-leb leading BLANK (omega (arith, h))

  past : leb BLANK isolated ≡ false
  past = lt-leb BLANK isolated k

  timely : leb isolated BLANK ≡ true
  timely = le-leb isolated BLANK (omega (arith, k))

  same : leb isolated isolated ≡ true
  same = le-leb isolated isolated (omega arith)

  pub picks : (lagging lead_lag : Bool) → Picked lagging lead_lag
  unfolding picked
  picks lagging lead_lag = go (leb leading isolated) refl lagging lead_lag
    where
      go : (t : Bool) → leb leading isolated ≡ t → (x y : Bool) → Picked x y
      go true e true true = rw e (first true true (λ ok. leb-true _ _ e) (λ ok. leb-true _ _ e))
      go true e true false = rw (e, blank) (first true false (λ ok. leb-true _ _ e) (λ ok. leb-true _ _ e))
      go true e false true = rw (e, blank) (first false true (λ ok. leb-true _ _ e) (λ ok. leb-true _ _ e))
      go true e false false = rw blank (first false false (λ ok. leb-true _ _ e) (λ ok. leb-true _ _ e))
      go false e true true = rw (e, same) (later true true (leb-false _ _ e) 1 (lit< tt) (lit< tt) refl (λ j m n a. absurd (omega arith)))
      go false e true false = rw (e, timely) (later true false (leb-false _ _ e) 1 (lit< tt) (lit< tt) refl (λ j m n a. absurd (omega arith)))
      go false e false true = rw (blank, e, past) (later false true (leb-false _ _ e) 2 (lit< tt) (lit< tt) refl only)
        where
          only : (j : ℕ) → 0 < j → j < 2 → allowed_by false true j ≡ true → ⊥
          only zero m n a = absurd (omega arith)
          only (suc zero) m n a = absurd (let z : ◌≡◌ {A = ℕ} 0 1 = cc in omega arith)
          only (suc (suc j)) m n a = absurd (omega arith)
      go false e false false = rw blank (first false false neither neither)
        where
          neither : false ≡ true → leading ≤ isolated
          neither never = absurd (let z : ◌≡◌ {A = ℕ} 0 1 = cc in omega arith)

module _ (r : List ℕ) (ok : judged_record r ≡ Accepted) where
  pub leading_most : leading_alternate (travel r) (west_side r) (east_side r) ≤ most_required
  leading_most =
      let w = west_side r in
      let e = east_side r in
      let t_t = within _ _ (travel_accepted r ok) in
      omega (
        arith,
        nothing_lost (travel r) w e,
        entering_most w (west_small r ok),
        entering_most e (east_small r ok),
        held_most (travel r) w t_t (west_small r ok),
        held_most (travel r) e t_t (east_small r ok),
      )

  pub isolated_plan_most : isolated_plan (west_side r) (east_side r) ≤ most_required
  isolated_plan_most = isolated_most (west_side r) (east_side r) (west_small r ok) (east_small r ok)

  pub best_picked : Picks (allowed r) (takes r) (get_or (diamond r) plan_pick 0) (get_or (diamond r) best_cell 0)
  unfolding diamond sides_of plans_of best_of
  best_picked = picks _ _ (omega (arith, leading_most)) (omega (arith, isolated_plan_most)) (lagging_allowed r) (lead_lag_allowed r)

-- lagging needs the storages that lead-lag needs
pub lagging_needs_more : (r : List ℕ) → allowed r 1 ≡ true → allowed r 2 ≡ true
unfolding lagging_allowed lead_lag_allowed
lagging_needs_more r h = (both_true (fits r 0 && fits r 1) (fits r 2 && fits r 3) h).1
