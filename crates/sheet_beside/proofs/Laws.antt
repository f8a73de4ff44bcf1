-- Each part of a sheet is within it; and how many numbers stand beside an approach's lines.
use mathlib.Core.Path.{◌≡◌, refl}
use mathlib.Core.Bool.{Bool, true, false, cond, ◌||◌}
use mathlib.Core.List.{List, [], ◌∷◌, ◌++◌}
use Prim.Native.Nat.{ℕ, ◌+◌, ◌*◌, ◌/◌, ◌<◌, ◌≤◌}
use lib.Dec.{eqb}
use lib.ListN.{length, get_or, take, length-append}
use native.Mathlib.Omega.{arith}
use Rattle.layout.specs.declared.Worksheet.{Worksheet}
use Rattle.layout.specs.declared.Worksheet.TheVariants.{Junction, Point}
use Rattle.layout.specs.Entries.{approach_count, EB, WB, NB, SB, free_no, approach_place}
use Rattle.layout.specs.Sheet.{line_count, lines_of, in_pair, pair_cells, pair_of, sheet_count, beside_numbers, page_count}
use Rattle.units.specs.Rounding.{up}
use Rattle.units.specs.Unit.{whole}
use Rattle.kinds.specs.declared.Group.TheVariants.{Left}
use Rattle.answers.specs.declared.Answer.TheVariants.{Accepted}
use Rattle.lists.proofs.Laws.{front_over, length_over}
use Rattle.entries.specs.Layout.{cycle}
use Rattle.entries.specs.Judging.{judged_for}
use Rattle.entries.proofs.Laws.{as_junction, accepted_count}
use Rattle.procedure.specs.declared.Approach.{Approach}
use Rattle.procedure.specs.Approach.{n, read_approach}
use Rattle.procedure.specs.Lines.{volume, left_share, equivalent, left_a}
use Rattle.procedure.specs.Sheet.{sheet_for}
use Rattle.sheet_cells.proofs.Cells.{sheet_length}
use Rattle.sheet_beside.specs.Beside.{own_lane, lane_for, line_in, through_in, left_in, added, beside_at, beside_of, beside, filled_beside}

pub record Within (k : Worksheet) (a : ℕ) : Type 0 where
  pub lines : lines_of k a + line_count k ≤ sheet_count k
  pub pair : pair_of k (a / in_pair) + pair_cells k ≤ sheet_count k
  pub beside : sheet_count k + beside_numbers k * a + beside_numbers k ≤ page_count k
  pub page : page_count k ≤ page_count Junction

pub within : (k : Worksheet) (a : ℕ) → a < approach_count → Within k a
within Junction a h = record { lines = omega arith; pair = omega arith; beside = omega arith; page = omega arith }
within Point a h = record { lines = omega arith; pair = omega arith; beside = omega arith; page = omega arith }

-- lists of one length, whichever is chosen
either_long : (t : Bool) (x y : List ℕ) {n : ℕ} → length x ≡ n → length y ≡ n → length (cond t x y) ≡ n
either_long true x y h k = h
either_long false x y h k = k

pub lane_length : (s o : Approach) (CL : ℕ) → length (own_lane s o CL) ≡ 3
unfolding own_lane
lane_length s o CL =
    either_long (eqb (volume s Left) 0) (0 ∷ 0 ∷ 0 ∷ []) (up (volume s Left) (n s Left) ∷ equivalent whole (left_share o) CL ∷ left_a s o CL ∷ [])
    refl refl

-- with the two numbers that are added, a lane is all that stands beside
pub lane_for_length : (k : Worksheet) (s o : Approach) (CL : ℕ) → length (lane_for k s o CL) + 2 ≡ beside_numbers k
unfolding lane_for
lane_for_length Junction s o CL = omega (arith, lane_length s o CL)
lane_for_length Point s o CL = refl

module _ (k : Worksheet) where
  pub added-length : (cells : List ℕ) (a o c : ℕ) → length (added k cells a o c) ≡ 2
  unfolding added
  added-length cells a o c =
      either_long (eqb (line_in k cells a 3) 0 || eqb (get_or cells (approach_place a free_no) 0) 1) (0 ∷ 0 ∷ [])
      (through_in k cells c ∷ left_in k cells o ∷ []) refl refl

  pub beside_length : (e cells : List ℕ) (a o c : ℕ) → length (beside_at k e cells a o c) ≡ beside_numbers k
  unfolding beside_at
  beside_length e cells a o c =
      let lane = lane_for k (read_approach e a) (read_approach e o) (cycle e) in
      omega (
        arith,
        length-append lane (added k cells a o c),
        lane_for_length k (read_approach e a) (read_approach e o) (cycle e),
        added-length cells a o c,
      )

  -- the sheet and what stands beside it
  pub all_length : (e : List ℕ) → length (sheet_for k e) ≡ sheet_count k → length (sheet_for k e ++ beside k e) ≡ page_count k
  unfolding beside_of
  all_length e sized =
      let cells = sheet_for k e in
      let eb = beside_at k e cells EB WB SB in
      let wb = beside_at k e cells WB EB NB in
      let nb = beside_at k e cells NB SB EB in
      let sb = beside_at k e cells SB NB WB in
      omega (
        arith,
        length-append cells (eb ++ wb ++ nb ++ sb),
        length-append (eb ++ wb ++ nb) sb,
        length-append (eb ++ wb) nb,
        length-append eb wb,
        beside_length e cells EB WB SB,
        beside_length e cells WB EB NB,
        beside_length e cells NB SB EB,
        beside_length e cells SB NB WB,
      )

  module _ (e d : List ℕ) (good : judged_for k e ≡ Accepted) where
    pub accepted_length : length (sheet_for k e ++ beside k e) ≡ page_count k
    accepted_length = all_length e (sheet_length k e (accepted_count e (as_junction k e good)))

    -- a list that is filled keeps its length, and has the page's numbers at its front
    pub filled_length : page_count k ≤ length d → length (filled_beside k e d) ≡ length d
    unfolding filled_beside
    filled_length room = rw good (length_over d 0 (sheet_for k e ++ beside k e) (omega (arith, accepted_length)))

    pub filled_front : take (page_count k) (filled_beside k e d) ≡ sheet_for k e ++ beside k e
    unfolding filled_beside
    filled_front = rw good (front_over d (sheet_for k e ++ beside k e) (page_count k) accepted_length)
