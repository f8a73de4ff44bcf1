-- All 28 lines: what each is at most, that no time among them reaches BLANK, and that each fits 32 bits.
use mathlib.Core.Path.{◌≡◌, refl}
use mathlib.Core.Bool.{Bool, true, ◌&&◌}
use mathlib.Core.List.{List, [], ◌∷◌}
use Prim.Native.Nat.{ℕ, zero, suc, ◌≤◌}
use native.Mathlib.Nat.{le_trans}
use native.Mathlib.Omega.{arith}
use lib.Dec.{leb}
use lib.ListN.{get_or, take}
use borrow.Author.Tests.{leb-true}
use Rattle.lists.proofs.Tests.{both_true}
use Rattle.layout.specs.declared.Worksheet.{Worksheet}
use Rattle.layout.specs.declared.Worksheet.TheVariants.{Junction, Point}
use Rattle.layout.specs.Sheet.{BLANK, line_count}
use Rattle.kinds.specs.declared.Kind.TheVariants.{Volume}
use Rattle.kinds.specs.declared.Group.TheVariants.{Left, Through, Right}
use Rattle.kinds.specs.Working.{most_of}
use Rattle.procedure.specs.declared.Approach.{Approach}
use Rattle.procedure.specs.Ranges.{Fair, FairCycle}
use Rattle.procedure.specs.Lines.{adjusted, first_lines, later_lines, lines, lines_for}
use Rattle.procedure.proofs.Worksheets.{lines_front}
use Rattle.units.specs.Unit.{whole}
use Rattle.line_bounds.specs.Bounds.{most_volume, most_flow, most_held, most_reference, most_adjusted, most_equivalent, most_mixed, Bounded}
use Rattle.line_bounds.proofs.Flows.{volumes, factor_between, group_serving, straight_serving, lefts_serving}
use Rattle.line_bounds.proofs.Times.{interference_most, F_most, reference_most, adjusted_most, line27_most, line28_most}
use Rattle.line_bounds.proofs.LeftLane.{carried}
use Rattle.line_bounds.proofs.Permitted.{line26_weighed, permitted_fit}

-- as many numbers as limits, each at most its own
infixr 30 ◌&◌
pub data Under : List ℕ → List ℕ → Type 0 where
  none : Under [] []
  ◌&◌ : {m x : ℕ} {ms xs : List ℕ} → x ≤ m → Under ms xs → Under (m ∷ ms) (x ∷ xs)

-- no limit is above BLANK, the largest number of 32 bits
abbrev pub fitting : List ℕ → Bool
fitting [] = true
fitting (m ∷ ms) = leb m BLANK && fitting ms

pub under_fits : (ms : List ℕ) {xs : List ℕ} → fitting ms ≡ true → Under ms xs → (k : ℕ) → get_or xs k 0 ≤ BLANK
under_fits [] e none k = omega arith
under_fits (m ∷ ms) e (h & hs) zero = le_trans h (leb-true m BLANK (both_true (leb m BLANK) (fitting ms) e).0)
under_fits (m ∷ ms) e (h & hs) (suc k) = under_fits ms (both_true (leb m BLANK) (fitting ms) e).1 hs k

-- the first of them, too
under_front : (n : ℕ) {ms xs : List ℕ} → Under ms xs → Under (take n ms) (take n xs)
under_front zero u = none
under_front (suc n) none = none
under_front (suc n) (h & hs) = h & under_front n hs

-- what each of the lines is at most
abbrev pub most_lines : List ℕ
most_lines =
    most_of Volume ∷ most_volume ∷ most_of Volume
    ∷ whole ∷ most_flow ∷ most_flow ∷ most_flow ∷ most_flow ∷ most_flow
    ∷ most_held ∷ most_held ∷ whole
    ∷ most_reference ∷ most_reference ∷ most_reference ∷ most_adjusted ∷ most_adjusted ∷ most_adjusted
    ∷ most_volume ∷ whole ∷ most_equivalent ∷ most_mixed
    ∷ BLANK ∷ BLANK ∷ BLANK ∷ BLANK
    ∷ most_reference ∷ most_adjusted
    ∷ []

module _ (s o : Approach) (CL : ℕ) (fair : Fair s) (cycle : FairCycle CL) where
  lines_most : Under most_lines (lines s o CL)
  unfolding lines first_lines later_lines
  lines_most =
      let counted = volumes s fair in
      let lane = carried s o CL fair cycle in
      let fit = permitted_fit s CL fair cycle o in
      counted.left & counted.through & counted.right
      & (factor_between s fair Through).most
      & (group_serving s fair Left).most & (group_serving s fair Through).most & (group_serving s fair Right).most
      & (straight_serving s fair).most & (lefts_serving s fair).most
      & interference_most s CL Right & interference_most s CL Through & F_most s CL
      & reference_most s CL fair cycle Left & reference_most s CL fair cycle Through & reference_most s CL fair cycle Right
      & adjusted_most s CL fair cycle Left & adjusted_most s CL fair cycle Through & adjusted_most s CL fair cycle Right
      & lane.heaviest_most & lane.share_most & lane.equivalent_most & lane.flow_most
      & fit.0 & fit.1 & fit.2 & fit.3
      & line27_most s CL fair cycle & line28_most s CL fair cycle
      & none

  -- what a sheet of kind k has of them; a line that it has not is read as 0
  pub bounded_lines : (k : Worksheet) → Bounded (lines_for k s o CL)
  unfolding lines_for lines first_lines later_lines
  bounded_lines k =
      let left = adjusted_most s CL fair cycle Left in
      let through = adjusted_most s CL fair cycle Through in
      let right = adjusted_most s CL fair cycle Right in
      by k left through right
    where
      by : (k : Worksheet) → adjusted s Left CL ≤ most_adjusted → adjusted s Through CL ≤ most_adjusted → adjusted s Right CL ≤ most_adjusted
          → Bounded (lines_for k s o CL)
      by Junction left through right =
          record {
            line16 = left;
            line17 = through;
            line18 = right;
            line26 = (line26_weighed s CL fair cycle o).timely;
            line28 = line28_most s CL fair cycle;
          }
      by Point left through right =
          record { line16 = left; line17 = through; line18 = right; line26 = λ time. omega arith; line28 = omega arith }

  -- every line fits 32 bits
  pub lines_fit : (k : Worksheet) (i : ℕ) → get_or (lines_for k s o CL) i 0 ≤ BLANK
  lines_fit k = rw (lines_front k s o CL) (under_fits (take (line_count k) most_lines) (all k) (under_front (line_count k) lines_most))
    where
      all : (k : Worksheet) → fitting (take (line_count k) most_lines) ≡ true
      all Junction = refl
      all Point = refl
