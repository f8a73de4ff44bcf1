-- Acceptable entries make fair approaches: what the judging gives, said of an approach and its groups.
use mathlib.Core.Path.{◌≡◌, refl, sym, subst}
use mathlib.Core.Bool.{Bool, true, false, cond}
use mathlib.Core.Logic.{⊎_elim, ◌⊎◌, inl, inr}
use mathlib.Core.List.{List}
use Prim.Native.Nat.{ℕ, ◌+◌, ◌/◌, ◌%◌, ◌<◌}
use native.Mathlib.Omega.{arith}
use native.Mathlib.Decide.{dec_lt}
use lib.Dec.{eqb, lit<}
use borrow.Author.Tests.{eqb-true, eqb-false}
use Rattle.answers.specs.declared.Answer.TheVariants.{Accepted}
use Rattle.kinds.specs.declared.Group.{Group}
use Rattle.kinds.specs.declared.Group.TheVariants.{Left, Through, Right}
use Rattle.kinds.specs.Kinds.{Within, kind_at, movement_kind, approach_kind, group_of}
use Rattle.kinds.proofs.Laws.{within}
use Rattle.layout.specs.Entries.{approach_count, group_count, movement_count, movement_entries, approach_entries, cycle_entry, left, through, right}
use Rattle.layout.specs.Entries.{lanes_no, volume_no, ideal_no, lost_no, green_no, factor_no, shared_no, walkers_no, crossing_no}
use Rattle.entries.specs.Layout.{lanes, volume as counted, shared, cycle, movement_entry, approach_entry}
use Rattle.entries.specs.Judging.{judged, other_lanes}
use Rattle.entries.proofs.Laws.{accepted_range, accepted_movement, accepted_approach, accepted_shared, accepted_served}
use Rattle.kinds.specs.declared.Kind.TheVariants.{Lanes, Volume, IdealFlow, LostTime, MinimumGreen, LaneFactor}
use Rattle.procedure.specs.declared.Movement.{Movement}
use Rattle.procedure.specs.Approach.{read_movement, read_approach, movement_of, n, is_shared}
use Rattle.procedure.specs.Lines.{a, b, volume}
use Rattle.procedure.specs.Ranges.{FairGroup, Fair, FairCycle}

-- the movement of a group is one of the approach's three
movement_no : ℕ → Group → ℕ
movement_no k Left = left k
movement_no k Through = through k
movement_no k Right = right k

movement_few : (k : ℕ) → k < approach_count → (g : Group) → movement_no k g < movement_count
unfolding movement_no
movement_few k h Left = omega arith
movement_few k h Through = omega arith
movement_few k h Right = omega arith

-- and it is that group's movement of that approach
group_of-movement_no : (k : ℕ) (g : Group) → group_of (movement_no k g) ≡ g
unfolding movement_no
group_of-movement_no k Left = let r : left k % group_count ≡ 0 = omega arith in rw r
group_of-movement_no k Through = let r : through k % group_count ≡ 1 = omega arith in rw r
group_of-movement_no k Right = let r : right k % group_count ≡ 2 = omega arith in rw r

approach_of : (k : ℕ) (g : Group) → movement_no k g / group_count ≡ k
unfolding movement_no
approach_of k Left = omega arith
approach_of k Through = omega arith
approach_of k Right = omega arith

one_of_three : (x y z : ℕ) → 0 < x + y + z → (0 < x) ⊎ ((0 < y) ⊎ (0 < z))
one_of_three x y z h = go (dec_lt 0 x) (dec_lt 0 y)
  where
    go : Dec (0 < x) → Dec (0 < y) → (0 < x) ⊎ ((0 < y) ⊎ (0 < z))
    go (yes p) d = inl p
    go (no p) (yes q) = inr (inl q)
    go (no p) (no q) = inr (inr (omega arith))

-- a positive choice was made for its first or its second value
positive : (t : Bool) (x y : ℕ) → 0 < cond t x y → ((t ≡ true) × (0 < x)) ⊎ ((t ≡ false) × (0 < y))
positive true x y h = inl (refl, h)
positive false x y h = inr (refl, h)

module _ (e : List ℕ) (ok : judged e ≡ Accepted) (k : ℕ) (few : k < approach_count) where
  is_read : (g : Group) → movement_of (read_approach e k) g ≡ read_movement e (movement_no k g)
  unfolding read_approach movement_no
  is_read Left = refl
  is_read Through = refl
  is_read Right = refl

  at : (g : Group) (j : ℕ) → j < movement_entries → Within (movement_kind j) (movement_entry e (movement_no k g) j)
  at g j h = within _ _ (accepted_movement e ok (movement_no k g) j (movement_few k few g) h)

  own : (j : ℕ) → j < approach_entries → Within (approach_kind j) (approach_entry e k j)
  own j h = within _ _ (accepted_approach e ok k j few h)

  fair_group : (g : Group) → FairGroup (read_approach e k) g
  unfolding read_movement
  fair_group g =
      record {
        lanes = subst (λ (m : Movement). Within Lanes m.lanes.0) (sym (is_read g)) (at g lanes_no (lit< tt));
        counted = subst (λ (m : Movement). Within Volume m.volume.0.0) (sym (is_read g)) (at g volume_no (lit< tt));
        ideal = subst (λ (m : Movement). Within IdealFlow m.ideal.0.0) (sym (is_read g)) (at g ideal_no (lit< tt));
        lost = subst (λ (m : Movement). Within LostTime m.lost.0.0) (sym (is_read g)) (at g lost_no (lit< tt));
        green = subst (λ (m : Movement). Within MinimumGreen m.green.0.0) (sym (is_read g)) (at g green_no (lit< tt));
        measured = subst (λ (m : Movement). Within LaneFactor m.measured.0) (sym (is_read g)) (at g factor_no (lit< tt));
      }

  -- what serves a counted movement: lanes of its own, or those that `other_lanes` names
  serves : (g : Group) → 0 < counted e (movement_no k g) → 0 < lanes e (movement_no k g) + other_lanes e k g
  serves g h = rw (approach_of k g, group_of-movement_no k g) at (accepted_served e ok (movement_no k g) (movement_few k few g) h)

  shared_through : is_shared (read_approach e k) ≡ true → 0 < n (read_approach e k) Through
  unfolding read_approach read_movement
  shared_through h = (accepted_shared e ok k few (eqb-true (shared e k) 1 h)).a_through

  served : (g : Group) → 0 < volume (read_approach e k) g → 0 < n (read_approach e k) g
  unfolding read_approach read_movement volume a b movement_no other_lanes
  served Left h =
      ⊎_elim (λ w. omega arith)
      (λ w. omega (arith, serves Left w.1, eqb-false (shared e k) 1 w.0, (own shared_no (lit< tt)).most))
      (positive (eqb (shared e k) 1) 0 (counted e (left k)) h)
  served Right h =
      ⊎_elim (λ w. omega arith) (λ w. omega (arith, eqb-false (lanes e (right k)) 0 w.0))
      (positive (eqb (lanes e (right k)) 0) 0 (counted e (right k)) h)
  served Through h =
      ⊎_elim (λ w. omega (arith, serves Through w))
      (⊎_elim
      (λ w. ⊎_elim (λ u. shared_through u.0) (λ u. omega arith) (positive (eqb (shared e k) 1) (counted e (left k)) 0 w))
      (λ w.
      ⊎_elim (λ u. omega (arith, serves Right u.1, eqb-true (lanes e (right k)) 0 u.0)) (λ u. omega arith)
      (positive (eqb (lanes e (right k)) 0) (counted e (right k)) 0 w)))
      (one_of_three (counted e (through k)) (cond (eqb (shared e k) 1) (counted e (left k)) 0) (cond (eqb (lanes e (right k)) 0) (counted e (right k)) 0) h)

  pub fair : Fair (read_approach e k)
  unfolding read_approach
  fair =
      record {
        group = fair_group;
        walkers = own walkers_no (lit< tt);
        crossing = own crossing_no (lit< tt);
        served = served;
        shares = shared_through;
      }

pub fair_cycle : (e : List ℕ) → judged e ≡ Accepted → FairCycle (cycle e)
unfolding kind_at
fair_cycle e ok = within _ _ (accepted_range e ok cycle_entry (lit< tt))
