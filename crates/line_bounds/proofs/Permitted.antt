-- Lines 23–26: option B never takes more off than it gave, a slower lane takes no less time, no time reaches BLANK.
use mathlib.Core.Path.{◌≡◌, refl, sym}
use mathlib.Core.Bool.{Bool, true, false, cond}
use Prim.Native.Nat.{ℕ, ◌+◌, ◌-◌, ◌*◌, ◌/◌, ◌≤◌, ◌<◌, min}
use native.Mathlib.Nat.{mul-le-mul_left, mul_left_comm, mul_assoc, mul_comm, le_of_eq}
use native.Mathlib.Nat.{le_trans, le-div_iff_mul-le, div-le_of_le-mul, div-mul-le_self, le_of_mul-le-mul_left, mul_right_comm}
use native.Mathlib.Omega.{arith}
use lib.Dec.{eqb}
use borrow.Author.Tests.{eqb-true, eqb-false, ne_eqb}
use Rattle.units.specs.Rounding.{up}
use Rattle.units.proofs.Laws.{up_most}
use Rattle.units.specs.Unit.{flow_unit, whole}
use Rattle.units.proofs.Laws.{up_covers}
use Rattle.layout.specs.Sheet.{BLANK}
use Rattle.kinds.specs.declared.Kind.TheVariants.{Lanes, Cycle}
use Rattle.kinds.specs.declared.Group.TheVariants.{Left, Through}
use Rattle.kinds.specs.Working.{most_of}
use Rattle.procedure.specs.declared.Approach.{Approach}
use Rattle.procedure.specs.Approach.{n, v, i, is_shared}
use Rattle.procedure.specs.Ranges.{Fair, FairCycle}
use Rattle.procedure.specs.Lines.{a, b, volume, v_c, v_st, f_t, flow_of, flow, s_st}
use Rattle.procedure.specs.Lines.{s_sl, interference, time, weighted, nobody_driving, v_ll, left_share, s_a, option_a_of, left_a, option_a}
use Rattle.procedure.specs.Lines.{allowed_a, allowed_b, empty, line23, line24, line25, line26, s_b, waiting, through_b, option_b, lesser}
use Rattle.line_bounds.specs.Bounds.{most_volume, least_straight, most_served, most_held}
use Rattle.line_bounds.specs.Bounds.{most_mixed_served, most_added, most_option, most_permitted, Timely}
use Rattle.line_bounds.proofs.Numbers.{shared_out, part_most}
use Rattle.line_bounds.proofs.Flows.{volumes, turning_between, straight_between, straight_alike, group_serving}
use Rattle.line_bounds.proofs.Times.{time_at_most, passes_most, straight_passes, lefts_pass, interference_most, weighed_added, nobody_most}
use Rattle.line_bounds.proofs.LeftLane.{carries, carried, share_within}

-- ---- what option B takes off

-- a lane less of at most 6 is at most 5/6 of the flow
lane_less : (F n : ℕ) → 0 < n → n ≤ most_of Lanes → most_of Lanes * (F * (n - 1) / n) ≤ (most_of Lanes - 1) * F
lane_less F n h k =
    let six = most_of Lanes in
    let five = most_of Lanes - 1 in
    let m = F * (n - 1) / n in
    let kept : m * n ≤ F * (n - 1) = div-mul-le_self (F * (n - 1)) n in
    let fewer : F * (six * (n - 1)) ≤ F * (five * n) = mul-le-mul_left F (omega arith) in
    let one : F * (six * (n - 1)) ≡ six * (F * (n - 1)) = mul_left_comm F six (n - 1) in
    let two : F * (five * n) ≡ n * (five * F) = rw (mul_left_comm F five n, mul_left_comm n five F, mul_comm F n) in
    let three : n * (six * m) ≡ six * (m * n) = rw (mul_left_comm n six m, mul_comm n m) in
    le_of_mul-le-mul_left {k = n} (omega arith) h

-- so a flow of line 6 less its shared lane is at most that of line 8, whatever turns
flow_beside_most :
    (K T S n : ℕ) → T ≤ whole → least_straight ≤ S → 0 < n → n ≤ most_of Lanes
    → K * T / (10_000_000 / flow_unit) * (n - 1) / n ≤ K * S / (10_000_000 / flow_unit)
flow_beside_most K T S n h k p r =
    let F = K * T / (10_000_000 / flow_unit) in
    let most : K * T ≤ K * whole = mul-le-mul_left K h in
    let least : K * least_straight ≤ K * S = mul-le-mul_left K k in
    let less = lane_less F n p r in
    (le-div_iff_mul-le {k = 10_000_000 / flow_unit} {x = F * (n - 1) / n} {y = K * S} (omega arith)).1 (omega arith)

flow_beside :
    (i n share T S : ℕ) → T ≤ whole → least_straight ≤ S → 0 < n → n ≤ most_of Lanes
    → flow_of i n share T * (n - 1) / n ≤ flow_of i n share S
unfolding flow_of
flow_beside i n share T S h k p r = rw (ne_eqb n 0 (λ (e : n ≡ 0). omega arith)) (flow_beside_most _ T S n h k p r)

-- only a shared lane folds lefts
unfolded : (s : Approach) → is_shared s ≡ false → b s ≡ 0
unfolding b
unfolded s e = rw e

shared_beside : (s : Approach) → Fair s → is_shared s ≡ true → s_b s ≤ s_st s
unfolding s_b s_st flow f_t v_st volume
shared_beside s fair e =
    let some : 0 < n s Through = fair.shares e in
    let most = turning_between (v_c s) (a s) (b s) (omega arith) (omega arith) in
    let least = straight_between (v_st s) (a s) (omega arith) in
    rw e (flow_beside (i s Through) (n s Through) _ _ _ most.most least.least some (fair.group Through).lanes.most)

-- "8,000 − ⌊8000·sB/sST⌋" is never below 0: the flow beside a waiting left is at most the flow without lefts
pub s_b_most : (s : Approach) → Fair s → s_b s ≤ s_st s
unfolding s_b
s_b_most s fair = go (is_shared s) refl
  where
    go : (t : Bool) → is_shared s ≡ t → s_b s ≤ s_st s
    go true e = shared_beside s fair e
    go false e = rw e (le_of_eq (sym (straight_alike s (unfolded s e))))

-- what is taken off for the cars beside a waiting left is no more than the 8 seconds
pub waits_most : (beside flow : ℕ) → beside ≤ flow → waiting * beside / flow ≤ waiting
waits_most beside flow h = div-le_of_le-mul flow (omega arith)

-- ---- a lane that is no faster takes no less time

pub time_least : (v lane flow mixed CL : ℕ) → 0 < mixed → v * mixed ≤ lane * flow → time v CL flow ≤ time lane CL mixed
unfolding time
time_least v lane flow mixed CL h k =
    let unit = 1000 * flow_unit in
    let over = unit * v * CL in
    let slower = unit * lane * CL in
    let T = up slower mixed in
    let covers : slower ≤ T * mixed = up_covers slower mixed h in
    let one : mixed * over ≡ unit * CL * (v * mixed) = rw (mul_comm mixed over, mul_right_comm unit v CL) (mul_assoc (unit * CL) v mixed) in
    let two : unit * CL * (lane * flow) ≡ flow * slower = rw (mul_comm flow slower, mul_right_comm unit lane CL) (sym (mul_assoc (unit * CL) lane flow)) in
    let three : flow * (T * mixed) ≡ mixed * (T * flow) = rw (mul_comm T mixed, mul_comm T flow) (mul_left_comm flow mixed T) in
    let less : unit * CL * (v * mixed) ≤ unit * CL * (lane * flow) = mul-le-mul_left (unit * CL) k in
    let more : flow * slower ≤ flow * (T * mixed) = mul-le-mul_left flow covers in
    up_most T over flow (le_of_mul-le-mul_left {k = mixed} (omega (arith, one, two, three, less, more)) h)

-- ---- no time reaches BLANK

option_a_of_most :
    (v_ll s_a v flow interference CL : ℕ)
    → flow_unit * v_ll ≤ most_mixed_served * s_a → flow_unit * v ≤ most_served * flow → interference ≤ most_held → CL ≤ most_of Cycle
    → option_a_of v_ll s_a v flow interference CL ≤ most_option
unfolding option_a_of
option_a_of_most v_ll s_a v flow interference CL h k p cycle =
    omega (arith, time_at_most most_mixed_served v_ll CL s_a cycle h, time_at_most most_served v CL flow cycle k)

-- where an option is allowed its line is a time
allowed_most : (none allowed : Bool) (x : ℕ) → x ≤ most_option → allowed ≡ true → cond none 0 (cond allowed x BLANK) ≤ most_option
allowed_most true allowed x h e = omega arith
allowed_most false allowed x h e = rw e h

cell_timely : (none allowed : Bool) (x : ℕ) → x ≤ most_option → Timely most_option (cond none 0 (cond allowed x BLANK))
cell_timely true allowed x h = λ not_blank. omega arith
cell_timely false true x h = λ not_blank. h
cell_timely false false x h = λ not_blank. absurd (not_blank refl)

lesser_timely : (x y most : ℕ) → Timely most x → Timely most y → Timely most (lesser x y)
unfolding lesser
lesser_timely x y most h k = go (eqb x BLANK) (eqb y BLANK) refl refl
  where
    go : (t u : Bool) → eqb x BLANK ≡ t → eqb y BLANK ≡ u → Timely most (lesser x y)
    go true u p q = rw p k
    go false true p q = rw (p, q) h
    go false false p q = rw (p, q) (λ not_blank. omega (arith, h (eqb-false x BLANK p)))

-- a time that is weighted where it is no BLANK: still a time, and BLANK only where it was
pub record Weighed (x cell : ℕ) : Type 0 where
  pub timely : Timely most_permitted cell
  pub blank : cell ≡ BLANK → x ≡ BLANK

weighed_cell :
    (none : Bool) (w x y : ℕ) → w ≤ most_added → Timely most_option x → y ≤ x + most_added
    → Weighed x (cond none w (cond (eqb x BLANK) BLANK y))
weighed_cell true w x y l h k = record { timely = λ not_blank. omega arith; blank = λ blank. absurd (omega arith) }
weighed_cell false w x y l h k = go (eqb x BLANK) refl
  where
    go : (t : Bool) → eqb x BLANK ≡ t → Weighed x (cond t BLANK y)
    go true e = record { timely = λ not_blank. absurd (not_blank refl); blank = λ blank. eqb-true x BLANK e }
    go false e =
        let time : x ≤ most_option = h (eqb-false x BLANK e) in
        record { timely = λ not_blank. omega arith; blank = λ blank. absurd (omega arith) }

-- a cell that is a time or BLANK is at most BLANK
pub timely_fits : {most x : ℕ} → most ≤ BLANK → Timely most x → x ≤ BLANK
timely_fits {most} {x} h timely = go (eqb x BLANK) refl
  where
    go : (t : Bool) → eqb x BLANK ≡ t → x ≤ BLANK
    go true e = omega (arith, eqb-true x BLANK e)
    go false e = le_trans (timely (eqb-false x BLANK e)) h

-- where what is allowed gives a time, BLANK says that it is not allowed
refused : (allowed : Bool) (x : ℕ) → (allowed ≡ true → x ≤ most_option) → x ≡ BLANK → allowed ≡ false
refused true x h blank = absurd (omega (arith, h refl))
refused false x h blank = refl

-- the lesser of two is BLANK where both are
both_blank : (x y : ℕ) → lesser x y ≡ BLANK → (x ≡ BLANK) × (y ≡ BLANK)
unfolding lesser
both_blank x y h = go (eqb x BLANK) (eqb y BLANK) refl refl h
  where
    go : (t u : Bool) → eqb x BLANK ≡ t → eqb y BLANK ≡ u → cond t y (cond u x (min x y)) ≡ BLANK → (x ≡ BLANK) × (y ≡ BLANK)
    go true u e f blank = (eqb-true x BLANK e, blank)
    go false true e f blank = (blank, eqb-true y BLANK f)
    go false false e f blank = absurd (omega (arith, eqb-false x BLANK e, eqb-false y BLANK f))

-- ---- of an acceptable approach

-- what BLANK says in lines 23–26: that the option is not allowed, or that neither is
pub record Refused (s o : Approach) (CL : ℕ) : Type 0 where
  pub a : line23 s o CL ≡ BLANK → allowed_a s o ≡ false
  pub b : line24 s o CL ≡ BLANK → allowed_b o ≡ false
  pub lesser : line25 s o CL ≡ BLANK → (allowed_a s o ≡ false) × (allowed_b o ≡ false)
  pub weighted : line26 s o CL ≡ BLANK → (allowed_a s o ≡ false) × (allowed_b o ≡ false)

module _ (s : Approach) (CL : ℕ) (fair : Fair s) (cycle : FairCycle CL) where
  pub option_b_most : option_b s CL ≤ most_option
  unfolding option_b through_b
  option_b_most =
      let straight = passes_most (straight_passes s CL fair cycle) in
      let lefts = passes_most (lefts_pass s CL fair cycle) in
      let held = interference_most s CL Through in
      let through : through_b (v_st s) (s_st s) (s_b s) (interference s Through CL) CL ≤ most_option = omega (arith, straight, held) in
      let left : waiting + time (v s Left) CL (s_sl s) ≤ most_option = omega (arith, lefts) in
      omega (arith, part_most (v_st s) (λ some. through), part_most (v s Left) (λ some. left))

  module _ (o : Approach) where
    -- the L value's own heaviest lane and flow
    lefts_carried : 0 < volume s Left → flow_unit * up (volume s Left) (n s Left) ≤ most_mixed_served * left_a s o CL
    unfolding left_a
    lefts_carried some =
        let lanes : 0 < n s Left = fair.served Left some in
        let served = group_serving s fair Left in
        let few : up (volume s Left) (n s Left) ≤ most_volume = omega (arith, shared_out (volume s Left) (n s Left) lanes, (volumes s fair).left) in
        (carries (up (volume s Left) (n s Left)) (flow s Left) whole (left_share o) CL (n s Left) few served.most (omega arith)
        (share_within o) cycle lanes served.least).serves

    pub option_a_most : option_a s o CL ≤ most_option
    unfolding option_a
    option_a_most =
        let lane = carried s o CL fair cycle in
        let through = group_serving s fair Through in
        let left = group_serving s fair Left in
        let lanes = up (volume s Left) (n s Left) in
        let held = interference_most s CL Through in
        let heavy = option_a_of_most (v_ll s) (s_a s o CL) (v_c s) (flow s Through) (interference s Through CL) CL lane.flow_serves
        through.serves held cycle.most in
        let lefts : 0 < volume s Left → option_a_of lanes (left_a s o CL) (volume s Left) (flow s Left) 0 CL ≤ most_option =
        λ some. option_a_of_most lanes (left_a s o CL) (volume s Left) (flow s Left) 0 CL (lefts_carried some) left.serves (omega arith) cycle.most in
        omega (arith, part_most (v_c s) (λ some. heavy), part_most (volume s Left) lefts)

    line23_timely : Timely most_option (line23 s o CL)
    unfolding line23
    line23_timely = cell_timely (empty s) (allowed_a s o) (option_a s o CL) option_a_most

    line24_timely : Timely most_option (line24 s o CL)
    unfolding line24
    line24_timely = cell_timely (empty s) (allowed_b o) (option_b s CL) option_b_most

    pub line25_timely : Timely most_option (line25 s o CL)
    unfolding line25
    line25_timely = lesser_timely (line23 s o CL) (line24 s o CL) most_option line23_timely line24_timely

    pub line26_weighed : Weighed (line25 s o CL) (line26 s o CL)
    unfolding line26
    line26_weighed =
        weighed_cell (empty s) (nobody_driving s CL) (line25 s o CL) (weighted s CL (line25 s o CL)) (nobody_most s CL fair)
        line25_timely (weighed_added s CL fair (line25 s o CL))

    -- every one of them fits 32 bits
    pub permitted_fit : (line23 s o CL ≤ BLANK) × (line24 s o CL ≤ BLANK) × (line25 s o CL ≤ BLANK) × (line26 s o CL ≤ BLANK)
    permitted_fit = (
      timely_fits (omega arith) line23_timely,
      timely_fits (omega arith) line24_timely,
      timely_fits (omega arith) line25_timely,
      timely_fits (omega arith) line26_weighed.timely,
    )

    a_refused : line23 s o CL ≡ BLANK → allowed_a s o ≡ false
    unfolding line23
    a_refused = refused (allowed_a s o) (line23 s o CL) (allowed_most (empty s) (allowed_a s o) (option_a s o CL) option_a_most)

    b_refused : line24 s o CL ≡ BLANK → allowed_b o ≡ false
    unfolding line24
    b_refused = refused (allowed_b o) (line24 s o CL) (allowed_most (empty s) (allowed_b o) (option_b s CL) option_b_most)

    both_refused : line25 s o CL ≡ BLANK → (allowed_a s o ≡ false) × (allowed_b o ≡ false)
    unfolding line25
    both_refused blank =
        let two = both_blank (line23 s o CL) (line24 s o CL) blank in
        (a_refused two.0, b_refused two.1)

    pub lines_refused : Refused s o CL
    lines_refused =
        record { a = a_refused; b = b_refused; lesser = both_refused; weighted = λ blank. both_refused (line26_weighed.blank blank) }
