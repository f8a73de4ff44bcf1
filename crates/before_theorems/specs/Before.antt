-- The rules of before Request Six: how the 81 entries were judged and an approach read from them, and what its lanes carried by the table's
-- factors alone.
-- Past its entries a sheet of then has the lines, the pairs and the last eight of those approaches.
use Rattle.std.specs.Prelude.{◌≡◌, Bool, cond, not, ◌&&◌, ◌||◌, List, ◌++◌, ℕ, ◌+◌, ◌-◌, ◌*◌, ◌/◌, ◌%◌, eqb, ltb, length, get_or}
use Rattle.answers.specs.Answers.{◌then◌, refuse_if, lowest}
use Rattle.answers.specs.declared.Answer.{Answer}
use Rattle.answers.specs.declared.Refusal.TheVariants.{Size, Range, Shared, NoLane}
use Rattle.units.specs.Unit.{flow_unit}
use Rattle.layout.specs.Entries.{EB, WB, NB, SB, approach_count, group_count, movement_count, approach_entries, left, through, right}
use Rattle.layout.specs.Entries.{lanes_no, volume_no, ideal_no, lost_no, green_no}
use Rattle.layout.specs.Entries.{shared_no, walkers_no, button_no, crossing_no, free_no}
use Rattle.kinds.specs.declared.Group.{Group}
use Rattle.kinds.specs.declared.Group.TheVariants.{Left, Through, Right}
use Rattle.kinds.specs.declared.Kind.{Kind}
use Rattle.kinds.specs.declared.Kind.TheVariants.{Cycle}
use Rattle.kinds.specs.Kinds.{in_range, movement_kind, approach_kind, group_of}
use Rattle.line_factors.specs.Factors.{lane_factor}
use Rattle.study_before.specs.Before.{movement_before, approaches_before, cycle_before, entries_before}
use Rattle.procedure.specs.declared.Movement.{Movement}
use Rattle.procedure.specs.declared.Approach.{Approach}
use Rattle.procedure.specs.Approach.{n, i, measured, is_shared, is_free}
use Rattle.procedure.specs.Lines.{a, v_st, f, flow, turning_st, s_st, s_sl, lines}
use Rattle.procedure.specs.Pairs.{pair, picked_time, through_time, left_time, right_total}
use Rattle.procedure.specs.Sheet.{last_of}

-- "Movement m has entries 5m to 5m+4": entry j of them; no lane factor was measured
abbrev pub of_movement : List ℕ → ℕ → ℕ → ℕ
of_movement e m j = get_or e (movement_before * m + j) 0

unfoldable pub movement_then : List ℕ → ℕ → Movement
movement_then e m =
    record {
      lanes = record { 0 = of_movement e m lanes_no; 1 = record {} };
      volume = record { 0 = record { 0 = of_movement e m volume_no }; 1 = record {} };
      ideal = record { 0 = record { 0 = of_movement e m ideal_no }; 1 = record {} };
      lost = record { 0 = record { 0 = of_movement e m lost_no }; 1 = record {} };
      green = record { 0 = record { 0 = of_movement e m green_no }; 1 = record {} };
      measured = record { 0 = 0; 1 = record {} };
    }

-- "Approach a has 60+5a onward"
abbrev pub of_approach : List ℕ → ℕ → ℕ → ℕ
of_approach e a j = get_or e (approaches_before + (approach_entries * a + j)) 0

unfoldable pub approach_then : List ℕ → ℕ → Approach
approach_then e a =
    record {
      left = movement_then e (left a);
      through = movement_then e (through a);
      right = movement_then e (right a);
      shared = record { 0 = of_approach e a shared_no; 1 = record {} };
      walkers = record { 0 = of_approach e a walkers_no; 1 = record {} };
      button = record { 0 = of_approach e a button_no; 1 = record {} };
      crossing = record { 0 = record { 0 = of_approach e a crossing_no }; 1 = record {} };
      free = record { 0 = of_approach e a free_no; 1 = record {} };
    }

-- "Entry 80 is the cycle CL"
abbrev pub cycle_then : List ℕ → ℕ
cycle_then e = get_or e cycle_before 0

-- "What a call may say no to", of the 81 entries: each by the kind at its place, then the same tests of lanes and volumes
abbrev pub kind_then : ℕ → Kind
kind_then p =
    cond (ltb p approaches_before) (movement_kind (p % movement_before))
    (cond (ltb p cycle_before) (approach_kind ((p - approaches_before) % approach_entries)) Cycle)

unfoldable pub outside_then : List ℕ → ℕ → Bool
outside_then e p = not (in_range (kind_then p) (get_or e p 0))

unfoldable pub badly_shared_then : List ℕ → ℕ → Bool
badly_shared_then e a =
    eqb (of_approach e a shared_no) 1 && (ltb 0 (of_movement e (left a) lanes_no) || eqb (of_movement e (through a) lanes_no) 0)

unfoldable pub other_lanes_then : List ℕ → ℕ → Group → ℕ
other_lanes_then e a Left = of_approach e a shared_no
other_lanes_then e a Through = 0
other_lanes_then e a Right = of_movement e (through a) lanes_no

unfoldable pub unserved_then : List ℕ → ℕ → Bool
unserved_then e m =
    ltb 0 (of_movement e m volume_no) && (eqb (of_movement e m lanes_no) 0 && eqb (other_lanes_then e (m / group_count) (group_of m)) 0)

unfoldable pub judged_then : List ℕ → Answer
judged_then e =
    refuse_if (not (eqb (length e) entries_before)) Size 0
    then lowest (outside_then e) Range 0 entries_before
    then lowest (badly_shared_then e) Shared 0 approach_count
    then lowest (unserved_then e) NoLane 0 movement_count

-- 5–9 "i·n·lane factor·f/10⁷", the lane factor being the table's
abbrev pub flow_then : Group → ℕ → ℕ → ℕ → ℕ
flow_then g i n f = cond (eqb n 0) 0 (i * n * lane_factor g n * f / (10_000_000 / flow_unit))

-- where no lane factor is measured, lines 5–7, 8 and 9 are those
pub record ByTheTable (s : Approach) : Type 0 where
  pub group : (g : Group) → measured s g ≡ 0 → flow s g ≡ flow_then g (i s g) (n s g) (f s g)
  pub straight : measured s Through ≡ 0 → s_st s ≡ flow_then Through (i s Through) (n s Through) (turning_st (v_st s) (a s))
  pub lefts : measured s Left ≡ 0 → s_sl s ≡ cond (is_shared s) (flow_then Left (i s Left) 1 (f s Left)) (flow_then Left (i s Left) (n s Left) (f s Left))

-- what a sheet has past its entries, of four approaches however they were read
module _ (at : ℕ → Approach) (CL : ℕ) where
  abbrev pub lines_by : ℕ → ℕ → List ℕ
  lines_by a o = lines (at a) (at o) CL

  abbrev pub pair_by : ℕ → ℕ → List ℕ
  pair_by a o = pair (is_shared (at a) || is_shared (at o)) (lines_by a o) (lines_by o a)

  abbrev pub right_by : ℕ → ℕ → ℕ → ℕ → List ℕ → List ℕ → ℕ
  right_by a o c d own cross = right_total (is_free (at a)) (lines_by a o) (through_time cross (lines_by c d)) (left_time own (lines_by o a))

  abbrev pub last_by : List ℕ
  last_by =
      let ew = pair_by EB WB in
      let ns = pair_by NB SB in
      last_of (right_by EB WB SB NB ew ns) (right_by WB EB NB SB ew ns) (right_by NB SB EB WB ns ew) (right_by SB NB WB EB ns ew)
      (picked_time ew + picked_time ns) CL

  unfoldable pub cells_by : List ℕ
  cells_by = (lines_by EB WB ++ lines_by WB EB ++ lines_by NB SB ++ lines_by SB NB) ++ (pair_by EB WB ++ pair_by NB SB ++ last_by)

-- the lines, the pairs and the last eight that the rules of before give 81 entries
unfoldable pub cells_then : List ℕ → List ℕ
cells_then e = cells_by (approach_then e) (cycle_then e)
