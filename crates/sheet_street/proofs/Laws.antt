-- A street's lines are the sheet's cells; the times that the last eight cells take from it are small.
use mathlib.Core.Path.{◌≡◌, refl}
use mathlib.Core.Bool.{Bool, false}
use mathlib.Core.List.{List}
use Prim.Native.Nat.{ℕ, ◌≤◌}
use native.Mathlib.Omega.{arith}
use Rattle.layout.specs.declared.Worksheet.{Worksheet}
use Rattle.layout.specs.declared.Worksheet.TheVariants.{Junction, Point}
use Rattle.entries.specs.Layout.{cycle}
use Rattle.procedure.specs.Approach.{read_approach}
use Rattle.procedure.specs.Pairs.{line, pair_for, pick_of, picked_time, through_time, left_time}
use Rattle.procedure.specs.Sheet.{lines_at}
use Rattle.procedure.specs.declared.Approach.{Approach}
use Rattle.procedure.specs.Ranges.{Fair, FairCycle}
use Rattle.line_bounds.specs.Bounds.{most_adjusted, most_picked, Bounded}
use Rattle.line_bounds.proofs.Lines.{bounded_lines}
use Rattle.line_stages.specs.Stages.{lines_of}
use Rattle.line_stages.specs.declared.Lines.{Lines}
use Rattle.line_stages.specs.Cells.{cells_of, cells_for}
use Rattle.line_stages.proofs.Laws.{cells_are_lines}
use Rattle.sheet_street.specs.Street.{LinesAt}
use Rattle.sheet_pairs.proofs.Laws.{protected_most, pick_few, picked_most, through_most, left_most}

-- the cells of an approach's lines are those of the sheet
pub cells_at : (k : Worksheet) (e : List ℕ) (a o : ℕ) {r : Lines} → LinesAt k e a o r → cells_for k r ≡ lines_at k e a o
unfolding lines_at
cells_at k e a o is = rw is (cells_are_lines k (read_approach e a) (read_approach e o) (cycle e))

-- all that was worked out is bounded: lines that a sheet has not are 0
pub whole_bounded : (k : Worksheet) (s o : Approach) (CL : ℕ) → Fair s → FairCycle CL → Bounded (cells_of (lines_of k s o CL))
whole_bounded k s o CL fair cycle = by k (rw (cells_are_lines k s o CL) (bounded_lines s o CL fair cycle k))
  where
    by : (k : Worksheet) → Bounded (cells_for k (lines_of k s o CL)) → Bounded (cells_of (lines_of k s o CL))
    by Junction b = b
    by Point b = record { line16 = b.line16; line17 = b.line17; line18 = b.line18; line26 = b.line26; line28 = b.line28 }

-- x and y are the lines of the two approaches, cells those of their pair
pub record Small (x y cells : List ℕ) : Type 0 where
  pub few : pick_of cells ≤ 2
  pub picked : picked_time cells ≤ most_picked
  pub right_first : line 18 x ≤ most_adjusted
  pub right_second : line 18 y ≤ most_adjusted
  pub through_first : through_time cells x ≤ most_picked
  pub through_second : through_time cells y ≤ most_picked
  pub left_first : left_time cells x ≤ most_adjusted
  pub left_second : left_time cells y ≤ most_adjusted

-- a junction's pair picks a time; a single point's has one where no lane is shared
module _ (x y : List ℕ) (bx : Bounded x) (by : Bounded y) where
  pub small : (k : Worksheet) (shared : Bool) → (k ≡ Point → shared ≡ false) → Small x y (pair_for k shared x y)
  unfolding pair_for through_time left_time
  small Junction shared unshared =
      record {
        few = pick_few shared x y bx by;
        picked = picked_most shared x y bx by;
        right_first = bx.line18;
        right_second = by.line18;
        through_first = (through_most shared x y bx by).0;
        through_second = (through_most shared x y bx by).1;
        left_first = left_most shared x y bx by x bx;
        left_second = left_most shared x y bx by y by;
      }
  small Point shared unshared =
      record {
        few = omega arith;
        picked = rw (unshared refl) (protected_most shared x y bx by);
        right_first = bx.line18;
        right_second = by.line18;
        through_first = omega (arith, bx.line17);
        through_second = omega (arith, by.line17);
        left_first = bx.line16;
        left_second = by.line16;
      }
