-- Lines 1–9: how the volumes part, and what bounds the flows; first over plain numbers, then of an acceptable approach.
use mathlib.Core.Path.{◌≡◌, refl, sym, ◌∙◌}
use mathlib.Core.Bool.{Bool, true, false, cond}
use Prim.Native.Nat.{ℕ, zero, suc, ◌+◌, ◌-◌, ◌*◌, ◌/◌, ◌≤◌, ◌<◌}
use native.Mathlib.Nat.{le_trans, mul-le-mul, mul-le-mul_right, mul-pos, mul_assoc}
use native.Mathlib.Nat.{mul_left_comm, mul-mul-mul_comm, sub-zero, div-eq_of_eq-mul_left, mul-div-mul_right}
use native.Mathlib.Decide.{dec_lt}
use native.Mathlib.Omega.{arith}
use lib.Dec.{eqb, lit≤}
use borrow.Author.Tests.{eqb-true, eqb-false, eq-eqb}
use Rattle.units.specs.Unit.{flow_unit, whole}
use Rattle.layout.specs.Entries.{group_count}
use Rattle.kinds.specs.declared.Group.{Group}
use Rattle.kinds.specs.declared.Group.TheVariants.{Left, Through, Right}
use Rattle.kinds.specs.declared.Kind.TheVariants.{Lanes, Volume, IdealFlow, LaneFactor}
use Rattle.kinds.specs.Kinds.{limits_of, Within}
use Rattle.kinds.specs.Working.{most_of}
use Rattle.line_factors.specs.Factors.{lane_factor, factor_of}
use Rattle.procedure.specs.declared.Approach.{Approach}
use Rattle.procedure.specs.Approach.{n, v, i, measured, is_shared}
use Rattle.procedure.specs.Lines.{a, b, volume, v_c, v_st, turning_t, f_t, flow_of, f, factor, flow, turning_st, s_st, s_sl}
use Rattle.procedure.specs.Ranges.{Fair}
use Rattle.line_bounds.specs.Bounds.{most_volume, least_turning, least_straight, least_factor, most_factor, least_lane_flow, most_flow, most_served}
use Rattle.line_bounds.proofs.Numbers.{Between, quotient_between}

-- ---- over plain numbers

-- the table's factor of a group with a lane
lane_between : (g : Group) (n : ℕ) → 0 < n → Between least_factor most_factor (lane_factor g n)
unfolding lane_factor
lane_between g zero h = omega arith
lane_between g (suc zero) h = record { least = lit≤ tt; most = lit≤ tt }
lane_between Left (suc (suc zero)) h = record { least = lit≤ tt; most = lit≤ tt }
lane_between Left (suc (suc (suc n))) h = record { least = lit≤ tt; most = lit≤ tt }
lane_between Through (suc (suc zero)) h = record { least = lit≤ tt; most = lit≤ tt }
lane_between Through (suc (suc (suc n))) h = record { least = lit≤ tt; most = lit≤ tt }
lane_between Right (suc (suc zero)) h = record { least = lit≤ tt; most = lit≤ tt }
lane_between Right (suc (suc (suc n))) h = record { least = lit≤ tt; most = lit≤ tt }

-- and the one that counts: measured, or the table's
pub factor_bounds : (g : Group) (n m : ℕ) → 0 < n → Within LaneFactor m → Between least_factor most_factor (factor_of g n m)
unfolding factor_of
factor_bounds g n m some fair = go (eqb m 0) refl
  where
    go : (t : Bool) → eqb m 0 ≡ t → Between least_factor most_factor (cond t (lane_factor g n) m)
    go true e = lane_between g n some
    go false e = record { least = fair.apart (eqb-false m 0 e); most = fair.most }

-- turns among v vehicles leave between 85 and 100, and between 95 and 100, of each hundred
pub turning_product :
    (v a b : ℕ) → a ≤ v → b ≤ v
    → Between (least_turning * (v * v)) (whole * (v * v)) ((100 * v - 15 * a) * (100 * v - 5 * b))
turning_product v a b p q =
    let rights = 100 * v - 15 * a in
    let lefts = 100 * v - 5 * b in
    record {
      least = omega (arith, mul-le-mul {n₁ = 85 * v} {m₁ = 95 * v} {n₂ = rights} {m₂ = lefts} (omega arith) (omega arith), mul-mul-mul_comm 85 v 95 v);
      most = omega (arith, mul-le-mul {n₁ = rights} {m₁ = lefts} {n₂ = 100 * v} {m₂ = 100 * v} (omega arith) (omega arith), mul-mul-mul_comm 100 v 100 v);
    }

pub turning_quotient :
    (v a b : ℕ) → (v ≡ 0 → ⊥) → a ≤ v → b ≤ v
    → Between least_turning whole ((100 * v - 15 * a) * (100 * v - 5 * b) / (v * v))
turning_quotient v a b z p q =
    quotient_between least_turning whole _ (v * v) (mul-pos (omega arith) (omega arith)) (turning_product v a b p q)

pub straight_quotient : (v a : ℕ) → (v ≡ 0 → ⊥) → a ≤ v → Between least_straight whole (100 * (100 * v - 15 * a) / v)
straight_quotient v a z p =
    quotient_between least_straight whole _ v (omega arith) (record { least = omega arith; most = omega arith })

-- a quotient that is the whole where there is nothing to divide by
unless_zero : (low x d : ℕ) → low ≤ whole → ((d ≡ 0 → ⊥) → Between low whole x) → Between low whole (cond (eqb d 0) whole x)
unless_zero low x d l h = go (eqb d 0) refl
  where
    go : (t : Bool) → eqb d 0 ≡ t → Between low whole (cond t whole x)
    go true e = record { least = l; most = lit≤ tt }
    go false e = h (eqb-false d 0 e)

pub turning_between : (v a b : ℕ) → a ≤ v → b ≤ v → Between least_turning whole (turning_t v a b)
unfolding turning_t
turning_between v a b p q = unless_zero least_turning _ v (lit≤ tt) (λ z. turning_quotient v a b z p q)

pub straight_between : (v a : ℕ) → a ≤ v → Between least_straight whole (turning_st v a)
unfolding turning_st
straight_between v a p = unless_zero least_straight _ v (lit≤ tt) (λ z. straight_quotient v a z p)

-- where nothing turns the whole is left
pub straight_none : (v : ℕ) → turning_st v 0 ≡ whole
unfolding turning_st
straight_none v = go (eqb v 0) refl
  where
    go : (t : Bool) → eqb v 0 ≡ t → cond t whole (100 * (100 * v - 15 * 0) / v) ≡ whole
    go true e = refl
    go false e = div-eq_of_eq-mul_left (omega (arith, eqb-false v 0 e)) (omega arith)

-- without folded lefts lines 4 and 8 have the same factor
pub turning_alike : (v a : ℕ) → turning_t v a 0 ≡ turning_st v a
unfolding turning_t turning_st
turning_alike v a = go (eqb v 0) refl
  where
    rights : ℕ
    rights = 100 * v - 15 * a

    straight : (x : ℕ) → x * (100 * v - 5 * 0) ≡ 100 * x * v
    straight x = rw (sub-zero (100 * v)) (mul_left_comm x 100 v ∙ sym (mul_assoc 100 x v))

    go : (t : Bool) → eqb v 0 ≡ t → cond t whole (rights * (100 * v - 5 * 0) / (v * v)) ≡ cond t whole (100 * rights / v)
    go true e = refl
    go false e = rw (straight rights) (mul-div-mul_right (100 * rights) v (omega (arith, eqb-false v 0 e)))

-- and so lines 6 and 8 are the same
pub straight_alike : (s : Approach) → b s ≡ 0 → s_st s ≡ flow s Through
unfolding s_st flow f_t v_st
straight_alike s none = rw (none, sub-zero, turning_alike)

-- the products of a flow, as far as they grow
pub record FlowRoom (i n k f : ℕ) : Type 0 where
  pub two : i * n ≤ most_of IdealFlow * most_of Lanes
  pub three : i * n * k ≤ most_of IdealFlow * most_of Lanes * most_factor
  pub four : i * n * k * f ≤ most_of IdealFlow * most_of Lanes * most_factor * whole

pub flow_room : (i n k f : ℕ) → i ≤ most_of IdealFlow → n ≤ most_of Lanes → k ≤ most_factor → f ≤ whole → FlowRoom i n k f
flow_room i n k f p q r t =
    record { two = mul-le-mul p q; three = mul-le-mul (mul-le-mul p q) r; four = mul-le-mul (mul-le-mul (mul-le-mul p q) r) t }

pub flow_between :
    (i n k f : ℕ) → Within IdealFlow i → n ≤ most_of Lanes → (0 < n → Between least_factor most_factor k) → Between least_turning whole f
    → Between (least_lane_flow * n) most_flow (flow_of i n k f)
unfolding flow_of
flow_between i n k f p q lane r = go (eqb n 0) refl
  where
    least : ℕ
    least = (limits_of IdealFlow).least

    go : (t : Bool) → eqb n 0 ≡ t → Between (least_lane_flow * n) most_flow (cond t 0 (i * n * k * f / (10_000_000 / flow_unit)))
    go true e = record { least = omega (arith, eqb-true n 0 e); most = lit≤ tt }
    go false e =
        let share = lane (omega (arith, eqb-false n 0 e)) in
        let low : least * n * least_factor * least_turning ≤ i * n * k * f =
        mul-le-mul (mul-le-mul (mul-le-mul p.least (omega arith)) share.least) r.least in
        let room = flow_room i n k f p.most q share.most r.most in
        record { least = omega (arith, low); most = omega (arith, room.four) }

-- a volume of v that n lanes of that flow serve
pub record Serving (v n flow : ℕ) : Type 0 where
  pub least : least_lane_flow * n ≤ flow
  pub most : flow ≤ most_flow
  pub serves : flow_unit * v ≤ most_served * flow

pub serving :
    (i n k f v : ℕ) → Within IdealFlow i → n ≤ most_of Lanes → (0 < n → Between least_factor most_factor k) → Between least_turning whole f
    → v ≤ most_volume → (0 < v → 0 < n)
    → Serving v n (flow_of i n k f)
serving i n k f v p q lane r m h =
    let w = flow_between i n k f p q lane r in
    record { least = w.least; most = w.most; serves = go w (dec_lt 0 v) }
  where
    go : Between (least_lane_flow * n) most_flow (flow_of i n k f) → Dec (0 < v) → flow_unit * v ≤ most_served * flow_of i n k f
    go w (yes z) = omega (arith, h z, w.least)
    go w (no z) = omega arith

-- ---- of an approach

-- what a test takes from one side it gives to the other
taken_or_left : (t : Bool) (x : ℕ) → cond t 0 x + cond t x 0 ≡ x
taken_or_left true x = omega arith
taken_or_left false x = omega arith

-- the volumes of the groups and the folded ones make up the volumes that were counted
pub record Parted (s : Approach) : Type 0 where
  pub left : volume s Left + b s ≡ v s Left
  pub right : volume s Right + a s ≡ v s Right
  pub through : volume s Through ≡ v s Through + b s + a s
  pub straight : v_st s ≡ v s Through + a s

pub parted : (s : Approach) → Parted s
unfolding volume a b v_st
parted s =
    record {
      left = taken_or_left (is_shared s) (v s Left);
      right = taken_or_left (eqb (n s Right) 0) (v s Right);
      through = refl;
      straight = omega arith;
    }

-- without right lanes the rights are in the through volume
pub rights_within : (s : Approach) → n s Right ≡ 0 → v s Right ≤ volume s Through
unfolding a
rights_within s none =
    let p = parted s in
    omega (arith, rw (eq-eqb (n s Right) 0 none) at p.through)

-- how many movements a group's volume may hold
abbrev pub carried : Group → ℕ
carried Left = 1
carried Through = group_count
carried Right = 1

module _ (s : Approach) (ok : Fair s) where
  kept_most : (g : Group) (x : ℕ) → volume s g + x ≡ v s g → volume s g ≤ most_of Volume
  kept_most g x e = omega (arith, (ok.group g).counted.most)

  pub counted_most : v s Left + v s Through + v s Right ≤ most_volume
  counted_most =
      omega (arith, (ok.group Left).counted.most, (ok.group Through).counted.most, (ok.group Right).counted.most)

  pub volume_most : (g : Group) → volume s g ≤ carried g * most_of Volume
  volume_most Left = kept_most Left (b s) (parted s).left
  volume_most Through =
      let p = parted s in
      omega (arith, p.left, p.right, p.through, counted_most)
  volume_most Right = kept_most Right (a s) (parted s).right

  carried_most : (g : Group) → carried g ≤ group_count
  carried_most Left = lit≤ tt
  carried_most Through = lit≤ tt
  carried_most Right = lit≤ tt

  -- the volumes and the folded ones, as the stages lean on them
  pub record Volumes : Type 0 where
    pub all : (g : Group) → volume s g ≤ most_volume
    pub left : volume s Left ≤ most_of Volume
    pub through : volume s Through ≤ most_volume
    pub right : volume s Right ≤ most_of Volume
    pub lefts : v s Left ≤ most_of Volume
    pub foldedleft : b s ≤ volume s Through
    pub foldedright : a s ≤ v_st s
    pub straight : v_st s ≤ volume s Through

  pub volumes : Volumes
  volumes =
      let p = parted s in
      record {
        all = λ g. le_trans (volume_most g) (mul-le-mul_right (most_of Volume) (carried_most g));
        left = volume_most Left;
        through = volume_most Through;
        right = volume_most Right;
        lefts = (ok.group Left).counted.most;
        foldedleft = omega (arith, p.through);
        foldedright = omega (arith, p.straight);
        straight = omega (arith, p.straight, p.through);
      }

  pub factor_between : (g : Group) → Between least_turning whole (f s g)
  unfolding f_t
  factor_between Left = record { least = lit≤ tt; most = lit≤ tt }
  factor_between Through =
      turning_between (v_c s) (a s) (b s) (omega (arith, (parted s).through)) (omega (arith, (parted s).through))
  factor_between Right = record { least = lit≤ tt; most = lit≤ tt }

  -- the lane factor of lanes of a group
  share_between : (g : Group) (n : ℕ) → 0 < n → Between least_factor most_factor (factor_of g n (measured s g))
  share_between g n some = factor_bounds g n (measured s g) some (ok.group g).measured

  -- lines 5–7
  pub group_serving : (g : Group) → Serving (volume s g) (n s g) (flow s g)
  unfolding flow factor
  group_serving g =
      serving (i s g) (n s g) (factor s g) (f s g) (volume s g) (ok.group g).ideal (ok.group g).lanes.most (share_between g (n s g))
      (factor_between g) (volumes.all g) (ok.served g)

  -- line 8
  pub straight_serving : Serving (v_st s) (n s Through) (s_st s)
  unfolding s_st factor
  straight_serving =
      let p = parted s in
      let t = straight_between (v_st s) (a s) (omega (arith, p.straight)) in
      serving (i s Through) (n s Through) (factor s Through) (turning_st (v_st s) (a s)) (v_st s) (ok.group Through).ideal
      (ok.group Through).lanes.most (share_between Through (n s Through))
      (record { least = omega (arith, t.least); most = t.most })
      (omega (arith, volumes.straight, volumes.through))
      (λ h. ok.served Through (omega (arith, p.straight, p.through)))

  -- line 9
  pub lefts_serving : Serving (v s Left) (cond (is_shared s) 1 (n s Left)) (s_sl s)
  unfolding s_sl volume
  lefts_serving = go (is_shared s) refl
    where
      share : ℕ
      share = factor_of Left 1 (measured s Left)

      go : (t : Bool) → is_shared s ≡ t → Serving (v s Left) (cond t 1 (n s Left)) (cond t (flow_of (i s Left) 1 share (f s Left)) (flow s Left))
      go true e =
          serving (i s Left) 1 share (f s Left) (v s Left) (ok.group Left).ideal (lit≤ tt) (share_between Left 1) (factor_between Left)
          (omega (arith, (ok.group Left).counted.most)) (λ h. lit≤ tt)
      go false e =
          let all : volume s Left ≡ v s Left = rw e in
          rw all at (group_serving Left)

  -- what the flow of a group asks
  pub flow_ready :
      (g : Group) (f : ℕ) → f ≤ whole
      → (i s g ≤ most_of IdealFlow) × (n s g ≤ most_of Lanes) × (measured s g ≤ most_of LaneFactor) × (f ≤ whole)
  flow_ready g f h = ((ok.group g).ideal.most, (ok.group g).lanes.most, (ok.group g).measured.most, h)
