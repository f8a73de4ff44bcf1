-- Lines 19–22: how large they can be, over plain numbers and then of an acceptable approach.
use mathlib.Core.Path.{◌≡◌, refl}
use mathlib.Core.Bool.{Bool, true, false}
use Prim.Native.Nat.{ℕ, ◌+◌, ◌-◌, ◌*◌, ◌/◌, ◌≤◌, ◌<◌}
use native.Mathlib.Nat.{mul-le-mul, mul-le-mul_left, le-mul_of_pos_right, mul-pos}
use native.Mathlib.Nat.{zero-mul, mul-div-mul_left, mul-div-mul_right, le-div_iff_mul-le, div-le_of_le-mul}
use native.Mathlib.Decide.{dec_lt}
use native.Mathlib.Omega.{arith}
use lib.Dec.{eqb}
use borrow.Author.Tests.{eqb-true, eqb-false, ltb-true}
use Rattle.units.specs.Rounding.{up}
use Rattle.units.proofs.Laws.{up_most}
use Rattle.units.specs.Unit.{flow_unit, whole}
use Rattle.lists.proofs.Tests.{both_true}
use Rattle.kinds.specs.declared.Kind.TheVariants.{Cycle}
use Rattle.kinds.specs.declared.Group.TheVariants.{Left, Through, Right}
use Rattle.kinds.specs.Working.{most_of}
use Rattle.procedure.specs.declared.Approach.{Approach}
use Rattle.procedure.specs.Approach.{n, v, is_shared}
use Rattle.procedure.specs.Ranges.{Fair, FairCycle}
use Rattle.procedure.specs.Lines.{b, v_c, flow, heaviest, v_ll, q, single, left_share, equivalent, E, flow_a, s_a}
use Rattle.line_bounds.specs.Bounds.{most_volume, least_lane_flow, most_flow, most_num}
use Rattle.line_bounds.specs.Bounds.{most_equivalent, least_parts, most_parts, least_mixed, most_mixed, most_mixed_served}
use Rattle.line_bounds.proofs.Numbers.{up_least, shared_out, chosen_most}
use Rattle.line_bounds.proofs.Flows.{volumes, parted, group_serving}

-- line 19 lies between the folded lefts and all of T
pub heaviest_most : (b v_c n : ℕ) → b ≤ v_c → 0 < n → heaviest b v_c n ≤ v_c
unfolding heaviest
heaviest_most b v_c n h k = omega (arith, shared_out (4 * b + v_c) n k)

pub heaviest_least : (b v_c n : ℕ) → b ≤ heaviest b v_c n
unfolding heaviest
heaviest_least b v_c n = omega arith

-- line 20 is a share
pub share_most : (b lane : ℕ) → b ≤ lane → up (whole * b) lane ≤ whole
share_most b lane h = up_most whole (whole * b) lane (mul-le-mul_left whole h)

-- what line 21 goes through, and where it ends
pub record EquivalentRoom (q o CL : ℕ) : Type 0 where
  pub square : q * q ≤ whole * whole
  pub oncoming : o * CL ≤ whole * most_of Cycle
  pub over : (500_000_000 + 80_000 * q - 3 * (q * q)) * CL ≤ most_num * most_of Cycle
  pub least : 1 ≤ equivalent q o CL
  pub most : equivalent q o CL ≤ most_equivalent

pub equivalent_room : (q o CL : ℕ) → q ≤ whole → o ≤ whole → FairCycle CL → EquivalentRoom q o CL
unfolding equivalent
equivalent_room q o CL h k cycle =
    let square : q * q ≤ whole * whole = mul-le-mul h h in
    let over : (500_000_000 + 80_000 * q - 3 * (q * q)) * CL ≤ most_num * most_of Cycle = mul-le-mul {n₂ = most_num} {m₂ = most_of Cycle} (omega arith)
    cycle.most in
    record {
      square = square;
      oncoming = mul-le-mul k cycle.most;
      over = over;
      least = up_least _ _ (mul-pos (omega arith) (omega (arith, cycle.least))) (omega arith);
      most = up_most most_equivalent _ _ (omega arith);
    }

-- where nothing oncoming turns left, line 21 of a lane without lefts is that of a lane of lefts alone
pub equivalent_alike : (q o CL : ℕ) → q ≤ whole → o + q * (whole - q) ≡ 0 → equivalent q o CL ≡ 2_500 * CL
unfolding equivalent up
equivalent_alike q o CL h e = go (dec_lt 0 q) (dec_lt q whole)
  where
    alone : o ≡ 0
    alone = omega arith

    go : Dec (0 < q) → Dec (q < whole) → equivalent q o CL ≡ 2_500 * CL
    go (yes some) (yes rest) =
        let left : 0 < whole - q = omega arith in
        absurd (omega (arith, mul-pos some left))
    go (yes some) (no rest) =
        let all : q ≡ whole = omega arith in
        rw (alone, all, zero-mul) (omega arith)
    go (no some) rest =
        let none : q ≡ 0 = omega arith in
        rw (alone, none, zero-mul) (omega arith)

-- the inner quotient of line 22, of a lane of lefts alone
pub parts_of_lefts : (E : ℕ) → 1_000_000_000_000 / (100_000_000 + whole * E - whole * whole) ≡ 100_000_000 / E
parts_of_lefts E =
    let under : 100_000_000 + whole * E - whole * whole ≡ whole * E = omega arith in
    rw under (mul-div-mul_left {m = whole} 100_000_000 E (omega arith))

-- without lefts a lane has its part of line 6
pub flow_a_none : (flow E n : ℕ) → flow_a flow 0 E n ≡ flow / n
unfolding flow_a
flow_a_none flow E n = rw (zero-mul E) (mul-div-mul_right {m = whole} flow n (omega arith))

-- what line 22 goes through: 10⁸ + q(E−10⁴) is never below 10⁴
pub record PartsRoom (q E : ℕ) : Type 0 where
  pub product : q * E ≤ whole * most_equivalent
  pub under_least : whole ≤ 100_000_000 + q * E - whole * q
  pub least : least_parts ≤ 1_000_000_000_000 / (100_000_000 + q * E - whole * q)
  pub most : 1_000_000_000_000 / (100_000_000 + q * E - whole * q) ≤ most_parts

pub parts_room : (q E : ℕ) → q ≤ whole → 1 ≤ E → E ≤ most_equivalent → PartsRoom q E
parts_room q E h l k =
    let U = 100_000_000 + q * E - whole * q in
    let product : q * E ≤ whole * most_equivalent = mul-le-mul h k in
    let enough : q ≤ q * E = le-mul_of_pos_right q l in
    record {
      product = product;
      under_least = omega arith;
      least = (le-div_iff_mul-le {k = U} {x = least_parts} {y = 1_000_000_000_000} (omega arith)).1 (omega arith);
      most = div-le_of_le-mul U (omega arith);
    }

-- and where it ends
pub record FlowARoom (flow q E n : ℕ) : Type 0 where
  pub over : flow * (1_000_000_000_000 / (100_000_000 + q * E - whole * q)) ≤ most_flow * most_parts
  pub least : least_mixed ≤ flow_a flow q E n
  pub most : flow_a flow q E n ≤ most_mixed

pub flow_a_room :
    (flow q E n : ℕ) → flow ≤ most_flow → q ≤ whole → 1 ≤ E → E ≤ most_equivalent → 0 < n → least_lane_flow * n ≤ flow → FlowARoom flow q E n
unfolding flow_a
flow_a_room flow q E n f h l k p e =
    let parts = parts_room q E h l k in
    let P = 1_000_000_000_000 / (100_000_000 + q * E - whole * q) in
    let over : flow * P ≤ most_flow * most_parts = mul-le-mul f parts.most in
    let carried : least_lane_flow * n * least_parts ≤ flow * P = mul-le-mul e parts.least in
    record {
      over = over;
      least = (le-div_iff_mul-le {k = n * whole} {x = least_mixed} {y = flow * P} (omega arith)).1 (omega arith);
      most = div-le_of_le-mul (n * whole) (omega arith);
    }

-- what a lane's volume is beside the flow of line 22, whatever its share of lefts
pub record Carries (volume flow : ℕ) : Type 0 where
  pub least : least_mixed ≤ flow
  pub serves : flow_unit * volume ≤ most_mixed_served * flow
  pub most : flow ≤ most_mixed

pub carries :
    (volume flow q o CL n : ℕ)
    → volume ≤ most_volume → flow ≤ most_flow → q ≤ whole → o ≤ whole → FairCycle CL → 0 < n → least_lane_flow * n ≤ flow
    → Carries volume (flow_a flow q (equivalent q o CL) n)
carries volume flow q o CL n h f k l cycle p e =
    let line21 = equivalent_room q o CL k l cycle in
    let line22 = flow_a_room flow q (equivalent q o CL) n f k line21.least line21.most p e in
    record { least = line22.least; serves = omega (arith, line22.least); most = line22.most }

-- the lefts of a single approach are folded into its lane, and there are some
pub single_folds : (o : Approach) → single o ≡ true → (b o ≡ v o Left) × (0 < v o Left)
unfolding single b
single_folds o h =
    let none = both_true (eqb (n o Left) 0) _ h in
    let one = both_true (eqb (n o Through) 1) _ none.1 in
    let bare = both_true (eqb (n o Right) 0) _ one.1 in
    let shared = both_true (is_shared o) _ bare.1 in
    (rw shared.0, ltb-true 0 (v o Left) shared.1)

-- so they are part of its volume
pub share_within : (o : Approach) → left_share o ≤ whole
unfolding left_share
share_within o =
    chosen_most (single o) (λ one. div-le_of_le-mul (v_c o) (omega (arith, (single_folds o one).0, (parted o).through))) (λ other. omega arith)

-- lines 19–22 of an approach, with or without volume
pub record Carried (s o : Approach) (CL : ℕ) : Type 0 where
  pub heaviest_most : v_ll s ≤ most_volume
  pub share_most : q s ≤ whole
  pub equivalent_most : E s o CL ≤ most_equivalent
  pub flow_serves : flow_unit * v_ll s ≤ most_mixed_served * s_a s o CL
  pub flow_most : s_a s o CL ≤ most_mixed
  pub flow_least : 0 < v_c s → 0 < s_a s o CL

pub carried : (s o : Approach) (CL : ℕ) → Fair s → FairCycle CL → Carried s o CL
unfolding v_ll q E s_a
carried s o CL ok cycle = go (eqb (v_c s) 0) refl
  where
    go : (t : Bool) → eqb (v_c s) 0 ≡ t → Carried s o CL
    go true e =
        record {
          heaviest_most = rw e (omega arith);
          share_most = rw e (omega arith);
          equivalent_most = rw e (omega arith);
          flow_serves = rw e (omega arith);
          flow_most = rw e (omega arith);
          flow_least = λ some. absurd (omega (arith, eqb-true (v_c s) 0 e));
        }
    go false e =
        let some : 0 < n s Through = ok.served Through (omega (arith, eqb-false (v_c s) 0 e)) in
        let counted = volumes s ok in
        let H = heaviest (b s) (v_c s) (n s Through) in
        let all : H ≤ most_volume = omega (arith, heaviest_most (b s) (v_c s) (n s Through) counted.foldedleft some, counted.through) in
        let share = share_most (b s) H (heaviest_least (b s) (v_c s) (n s Through)) in
        let served = group_serving s ok Through in
        let room = equivalent_room (up (whole * b s) H) (left_share o) CL share (share_within o) cycle in
        let lane = carries H (flow s Through) (up (whole * b s) H) (left_share o) CL (n s Through) all served.most share
        (share_within o) cycle some served.least in
        record {
          heaviest_most = rw e all;
          share_most = rw e share;
          equivalent_most = rw e room.most;
          flow_serves = rw e lane.serves;
          flow_most = rw e lane.most;
          flow_least = λ some. rw e (omega (arith, lane.least));
        }
