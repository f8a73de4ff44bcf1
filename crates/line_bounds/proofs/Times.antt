-- Lines 10–18, 27 and 28: how large a time can be.
use mathlib.Core.Path.{◌≡◌, refl}
use mathlib.Core.Bool.{Bool, true, false, cond, ◌&&◌}
use Prim.Native.Nat.{ℕ, ◌+◌, ◌-◌, ◌*◌, ◌/◌, ◌≤◌, ◌<◌, ◌^◌, max}
use native.Mathlib.Nat.{mul-le-mul, mul-le-mul_left, mul_assoc, le_trans, zero-mul}
use native.Mathlib.Omega.{arith}
use lib.Dec.{eqb, ltb}
use borrow.Author.Tests.{eqb-true}
use Rattle.units.specs.Rounding.{up}
use Rattle.units.proofs.Laws.{up_most}
use Rattle.units.specs.Unit.{flow_unit, whole}
use Rattle.lists.proofs.Tests.{both_true}
use Rattle.kinds.specs.declared.Kind.TheVariants.{LostTime, MinimumGreen, Pedestrians, PedestrianTime, Cycle}
use Rattle.kinds.specs.declared.Group.{Group}
use Rattle.kinds.specs.declared.Group.TheVariants.{Left, Through, Right}
use Rattle.kinds.specs.Working.{most_of}
use Rattle.line_decay.specs.Decay.{term, turns, faded, decay_number as D}
use Rattle.line_decay.proofs.Laws.{decay_most}
use Rattle.procedure.specs.declared.Approach.{Approach}
use Rattle.procedure.specs.Approach.{n, v, p, lost, green, crossing, has_button}
use Rattle.procedure.specs.Lines.{volume, v_c, v_st, flow, s_st, s_sl, G, interference, frequency, F, time, reference, adjusted_of, weighted_of, weighted, adjusted}
use Rattle.procedure.specs.Lines.{crossed, nobody_driving, empty, line27, line28}
use Rattle.procedure.specs.Ranges.{Fair, FairCycle}
use Rattle.line_bounds.specs.Bounds.{most_volume, most_served, Passes, most_held, most_time, most_reference, most_added, most_adjusted}
use Rattle.line_bounds.proofs.Numbers.{chosen_most, part_most}
use Rattle.line_bounds.proofs.Flows.{rights_within, volumes, group_serving, straight_serving, lefts_serving}

-- ---- over plain numbers

-- the volumes of all movements of an approach over the longest cycle, in thousandths
pub volume_room : (v CL : ℕ) → v ≤ most_volume → CL ≤ most_of Cycle → 1000 * flow_unit * v * CL ≤ 1000 * flow_unit * most_volume * most_of Cycle
volume_room v CL h k = mul-le-mul {n₂ = 1000 * flow_unit * most_volume} {m₂ = most_of Cycle} (omega arith) k

-- a flow that serves a k-th of the volume lets it pass in k times the longest cycle
pub time_at_most : (k v CL flow : ℕ) → CL ≤ most_of Cycle → flow_unit * v ≤ k * flow → time v CL flow ≤ most_time k
unfolding time
time_at_most k v CL flow h s =
    up_most (most_time k) (1000 * flow_unit * v * CL) flow
    (rw (mul_assoc (1000 * most_of Cycle) k flow) (le_trans (mul-le-mul {n₂ = 1000 * (k * flow)} {m₂ = most_of Cycle} (omega arith) h) (omega arith)))

-- what walkers take beyond the cars is weighed down, not up
pub walkers_share : (x F : ℕ) → F ≤ whole → up (x * F) whole ≤ x
walkers_share x F h = up_most x (x * F) whole (mul-le-mul_left x h)

pub walkers_room : (x F : ℕ) → x ≤ most_of PedestrianTime → F ≤ whole → x * F ≤ most_of PedestrianTime * whole
walkers_room x F h k = mul-le-mul h k

-- walkers by seconds of a cycle, counted twice at most
pub walked_room : (p CL : ℕ) → p ≤ 2 * most_of Pedestrians → CL ≤ most_of Cycle → p * CL < 2 ^ 64
walked_room p CL walkers cycle = omega (arith, mul-le-mul walkers cycle)

-- 8 and 16 whole decay numbers are all of 24,000 ms: what is taken off never exceeds it
pub spared_most : (p CL : ℕ) → (8 * D (p * (CL - 8)) + 16 * D (4 * p)) / 1_000_000 ≤ most_held
spared_most p CL = omega (arith, decay_most (p * (CL - 8)), decay_most (4 * p))

pub G_most : (p CL : ℕ) → G p CL ≤ most_held
unfolding G
G_most p CL = omega arith

-- nobody takes nothing
pub G_none : (CL : ℕ) → G 0 CL ≡ 0
unfolding G term turns faded D
G_none CL = rw (zero-mul (CL - 8))

pub frequency_most : (p : ℕ) (button : Bool) (CL : ℕ) → frequency p button CL ≤ whole
unfolding frequency
frequency_most p button CL =
    chosen_most (eqb p 0) (λ none. omega arith) (λ some. chosen_most button (λ with. omega arith) (λ without. omega arith))

-- where nobody turns right the through lanes bear nothing
pub bears_none : (s : Approach) (CL : ℕ) → v s Right ≡ 0 → interference s Through CL ≡ 0
unfolding interference
bears_none s CL none = go (eqb (n s Right) 0 && ltb 0 (v_c s)) (v s Right) none
  where
    go : (t : Bool) (rights : ℕ) → rights ≡ 0 → cond t (up (G (p s) CL * rights) (v_c s)) 0 ≡ 0
    go true rights none = rw none (omega (arith, up_most 0 (G (p s) CL * 0) (v_c s) (omega arith)))
    go false rights none = refl

pub adjusted_added :
    (lost minimum reference : ℕ) → lost ≤ most_of LostTime → minimum ≤ most_of MinimumGreen → adjusted_of lost minimum reference ≤ reference + most_added
unfolding adjusted_of
adjusted_added lost minimum reference h k = omega arith

pub weighted_added :
    (lost minimum crossing F reference : ℕ)
    → lost ≤ most_of LostTime → minimum ≤ most_of MinimumGreen → crossing ≤ most_of PedestrianTime → F ≤ whole
    → weighted_of lost minimum crossing F reference ≤ reference + most_added
unfolding weighted_of
weighted_added lost minimum crossing F reference h k l m =
    let beyond = max (max minimum reference) crossing - max minimum reference in
    omega (arith, walkers_share beyond F m)

-- the time of a volume, with what holds it up
pub passes_most : {v CL flow : ℕ} → Passes v CL flow → time v CL flow ≤ most_time most_served
passes_most {v} {CL} {flow} h = time_at_most most_served v CL flow h.cycle h.serves

pub held_most : {v CL flow : ℕ} (x : ℕ) → Passes v CL flow → x ≤ most_held → time v CL flow + x ≤ most_reference
held_most {v} {CL} {flow} x h held = omega (arith, passes_most h)

-- ---- of an acceptable approach

module _ (s : Approach) (CL : ℕ) where
  -- 12
  pub F_most : F s CL ≤ whole
  unfolding F
  F_most = frequency_most (p s) (has_button s) CL

  -- 10, 11
  pub interference_most : (g : Group) → interference s g CL ≤ most_held
  unfolding interference
  interference_most Left = omega arith
  interference_most Through =
      chosen_most (eqb (n s Right) 0 && ltb 0 (v_c s))
      (λ folded. up_most most_held _ _ (mul-le-mul (G_most (p s) CL) (rights_within s (eqb-true _ _ (both_true _ _ folded).0))))
      (λ other. omega arith)
  interference_most Right = chosen_most (eqb (n s Right) 0) (λ none. omega arith) (λ some. G_most (p s) CL)

  module _ (ok : Fair s) where
    -- what lost time, minimum and walkers make of any reference time
    pub weighed_added : (x : ℕ) → weighted s CL x ≤ x + most_added
    unfolding weighted
    weighed_added x =
        let through = ok.group Through in
        weighted_added (lost s Through) (green s Through) (crossing s) (F s CL) x through.lost.most through.green.most ok.crossing.most F_most

    -- and where nobody drives
    pub nobody_most : nobody_driving s CL ≤ most_added
    unfolding nobody_driving
    nobody_most = chosen_most (crossed s) (λ walked. weighed_added 0) (λ none. omega arith)

    turn_added : (g : Group) (x : ℕ) → adjusted_of (lost s g) (green s g) x ≤ x + most_added
    turn_added g x = adjusted_added (lost s g) (green s g) x (ok.group g).lost.most (ok.group g).green.most

    module _ (cycle : FairCycle CL) where
      -- the volumes of the groups, of the through without folded lefts, and of the lefts can be timed
      pub group_passes : (g : Group) → Passes (volume s g) CL (flow s g)
      group_passes g =
          let served = group_serving s ok g in
          record { counted = (volumes s ok).all g; cycle = cycle.most; most = served.most; serves = served.serves }

      pub straight_passes : Passes (v_st s) CL (s_st s)
      straight_passes =
          let served = straight_serving s ok in
          let counted = volumes s ok in
          record { counted = omega (arith, counted.straight, counted.through); cycle = cycle.most; most = served.most; serves = served.serves }

      pub lefts_pass : Passes (v s Left) CL (s_sl s)
      lefts_pass =
          let served = lefts_serving s ok in
          record { counted = omega (arith, (volumes s ok).lefts); cycle = cycle.most; most = served.most; serves = served.serves }

      -- 13–15
      pub reference_most : (g : Group) → reference s g CL ≤ most_reference
      unfolding reference
      reference_most g = part_most (volume s g) (λ some. held_most (interference s g CL) (group_passes g) (interference_most g))

      -- 16–18
      pub adjusted_most : (g : Group) → adjusted s g CL ≤ most_adjusted
      unfolding adjusted
      adjusted_most Left = part_most (volume s Left) (λ some. omega (arith, turn_added Left (reference s Left CL), reference_most Left))
      adjusted_most Through =
          chosen_most (eqb (v_c s) 0) (λ none. omega (arith, nobody_most))
          (λ some. omega (arith, weighed_added (reference s Through CL), reference_most Through))
      adjusted_most Right = part_most (volume s Right) (λ some. omega (arith, turn_added Right (reference s Right CL), reference_most Right))

      -- 27, 28
      pub line27_most : line27 s CL ≤ most_reference
      unfolding line27
      line27_most =
          let straight = held_most (interference s Through CL) straight_passes (interference_most Through) in
          let first = part_most (v_st s) (λ some. straight) in
          let within : time (v s Left) CL (s_sl s) ≤ most_reference = omega (arith, passes_most lefts_pass) in
          let second = part_most (v s Left) (λ some. within) in
          omega (arith, reference_most Through, first, second)

      pub line28_most : line28 s CL ≤ most_adjusted
      unfolding line28
      line28_most = chosen_most (empty s) (λ none. omega (arith, nobody_most)) (λ some. omega (arith, weighed_added (line27 s CL), line27_most))
