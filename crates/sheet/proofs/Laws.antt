-- What the filling leans on: a street's times are small, and the parts make the whole sheet.
use mathlib.Core.Path.{◌≡◌, refl, ◌∙◌}
use mathlib.Core.Bool.{Bool, false, ◌||◌}
use mathlib.Core.List.{List, ◌++◌, append_assoc}
use Prim.Native.Nat.{ℕ, ◌+◌, ◌*◌, ◌<◌}
use lib.Dec.{eqb}
use lib.ListN.{length, length-append}
use native.Mathlib.Omega.{arith}
use Rattle.layout.specs.declared.Worksheet.{Worksheet}
use Rattle.layout.specs.declared.Worksheet.TheVariants.{Junction, Point}
use Rattle.layout.specs.Sheet.{line_count, pair_cells as pair_cell_count, last_cells}
use Rattle.sheet_cells.proofs.Cells.{pair_length, last_length}
use Rattle.answers.specs.declared.Answer.TheVariants.{Accepted}
use Rattle.layout.specs.Entries.{approach_count, EB, WB, NB, SB}
use Rattle.entries.specs.Layout.{cycle}
use Rattle.entries.specs.Judging.{judged_for}
use Rattle.procedure.specs.Approach.{read_approach, is_shared, is_free}
use Rattle.procedure.specs.Pairs.{line, pick_of, picked_time, through_time, left_time, right_total}
use Rattle.procedure.specs.Sheet.{lines_at, pair_at, right_at, last_of, last_at, sheet_for}
use Rattle.entries.specs.declared.Fault.TheVariants.{Shared}
use Rattle.entries.specs.Judging.{badly_shared}
use Rattle.entries.proofs.Laws.{as_junction, fault_free}
use Rattle.procedure.proofs.Fair.{fair, fair_cycle}
use Rattle.line_bounds.proofs.Lines.{bounded_lines}
use Rattle.line_stages.specs.declared.Lines.{Lines}
use Rattle.line_stages.specs.Cells.{cells_of, cells_for}
use Rattle.sheet_pairs.specs.Cells.{pair_cells, pair_in}
use Rattle.sheet_pairs.specs.declared.Pair.{Pair}
use Rattle.sheet_street.specs.declared.Street.{Street}
use Rattle.sheet_street.specs.Street.{StreetAt}
use Rattle.sheet_street.proofs.Laws.{Small, small}
use Rattle.sheet.specs.Working.{SmallPair, rest_at}

-- no approach of a single point shares a lane
module _ (k : Worksheet) (e : List ℕ) (ok : judged_for k e ≡ Accepted) where
  pub unshared : (a : ℕ) → a < approach_count → k ≡ Point → is_shared (read_approach e a) ≡ false
  unfolding read_approach badly_shared
  unshared a h point = rw point at (fault_free k e ok Shared a h)

  pub small_at : (a o : ℕ) → a < approach_count → o < approach_count → Small (lines_at k e a o) (lines_at k e o a) (pair_at k e a o)
  unfolding lines_at pair_at
  small_at a o h p =
      let s = read_approach e a in
      let t = read_approach e o in
      let good = as_junction k e ok in
      small (lines_at k e a o) (lines_at k e o a) (bounded_lines s t (cycle e) (fair e good a h) (fair_cycle e good) k)
      (bounded_lines t s (cycle e) (fair e good o p) (fair_cycle e good) k) k (is_shared s || is_shared t)
      (λ point. rw (unshared a h point, unshared o p point))

-- how many cells an approach's lines and a pair's values make
pub lines_count : (k : Worksheet) (z : Lines) → length (cells_for k z) ≡ line_count k
lines_count Junction z = refl
lines_count Point z = refl

pub both_count : (k : Worksheet) (y z : Lines) → length (cells_for k y ++ cells_for k z) ≡ 2 * line_count k
both_count Junction y z = refl
both_count Point y z = refl

pub length-pair_in : (k : Worksheet) (pair : Pair) → length (pair_in k pair) ≡ pair_cell_count k
length-pair_in Junction pair = refl
length-pair_in Point pair = refl

-- what the last eight take of all that was worked out, they take of the lines and cells that the sheet has
module _ (pair : Pair) where
  pub picked_same : (k : Worksheet) → pair.picked ≡ pick_of (pair_in k pair) → picked_time (pair_cells pair) ≡ picked_time (pair_in k pair)
  picked_same Junction pick = refl
  picked_same Point pick = rw pick

  pub few_same : (k : Worksheet) → pair.picked ≡ pick_of (pair_in k pair) → pick_of (pair_cells pair) ≡ pick_of (pair_in k pair)
  few_same Junction pick = refl
  few_same Point pick = pick

  module _ (z : Lines) where
    pub through_same :
        (k : Worksheet) → pair.picked ≡ pick_of (pair_in k pair) → through_time (pair_cells pair) (cells_of z) ≡ through_time (pair_in k pair) (cells_for k z)
    unfolding through_time
    through_same Junction pick = refl
    through_same Point pick = rw pick

    pub left_same :
        (k : Worksheet) → pair.picked ≡ pick_of (pair_in k pair) → left_time (pair_cells pair) (cells_of z) ≡ left_time (pair_in k pair) (cells_for k z)
    unfolding left_time
    left_same Junction pick = refl
    left_same Point pick = rw pick

pub right_same : (k : Worksheet) (free : Bool) (z : Lines) (x y : ℕ) → right_total free (cells_of z) x y ≡ right_total free (cells_for k z) x y
unfolding right_total
right_same Junction free z x y = refl
right_same Point free z x y = refl

pub line_18_same : (k : Worksheet) (z : Lines) → line 18 (cells_of z) ≡ line 18 (cells_for k z)
line_18_same Junction z = refl
line_18_same Point z = refl

-- so the street's own values are small
pub small_street :
    (k : Worksheet) (e : List ℕ) → judged_for k e ≡ Accepted → {a o : ℕ} {r : Street} → a < approach_count → o < approach_count → StreetAt k e a o r
    → Small (cells_of r.one) (cells_of r.other) (pair_cells r.pair)
small_street k e ok {a} {o} {r} h p s =
    let whole : Small (cells_for k r.one) (cells_for k r.other) (pair_in k r.pair) = rw (s.first, s.second, s.pair) (small_at k e ok a o h p) in
    record {
      few = rw (few_same r.pair k s.picked) whole.few;
      picked = rw (picked_same r.pair k s.picked) whole.picked;
      right_first = rw (line_18_same k r.one) whole.right_first;
      right_second = rw (line_18_same k r.other) whole.right_second;
      through_first = rw (through_same r.pair r.one k s.picked) whole.through_first;
      through_second = rw (through_same r.pair r.other k s.picked) whole.through_second;
      left_first = rw (left_same r.pair r.one k s.picked) whole.left_first;
      left_second = rw (left_same r.pair r.other k s.picked) whole.left_second;
    }

pub rest_assembled :
    (k : Worksheet) (e : List ℕ) {p q l : List ℕ} → p ≡ pair_at k e EB WB → q ≡ pair_at k e NB SB → l ≡ last_at k e → p ++ q ++ l ≡ rest_at k e
rest_assembled k e p q l = rw (p, q, l)

-- how many cells stand after the lines
pub rest_length : (k : Worksheet) (e : List ℕ) → length (rest_at k e) ≡ 2 * pair_cell_count k + last_cells
rest_length k e =
    let pairs = pair_at k e EB WB ++ pair_at k e NB SB in
    omega (
      arith,
      length-append pairs (last_at k e),
      length-append (pair_at k e EB WB) (pair_at k e NB SB),
      pair_length k e EB WB,
      pair_length k e NB SB,
      last_length k e,
    )

pub small_pair : {x y : List ℕ} (r : Pair) → Small x y (pair_cells r) → SmallPair r
small_pair r s = record { few = s.few; picked = s.picked }

-- the right total of approach a from its own street and the one that crosses it
pub right_assembled :
    (k : Worksheet) (e : List ℕ) (a o c d : ℕ) (x y z : Lines) (own cross : Pair) {P Q : List ℕ} {free : ℕ} → free ≡ (read_approach e a).free.0
    → cells_for k x ≡ lines_at k e a o → cells_for k y ≡ lines_at k e c d → cells_for k z ≡ lines_at k e o a → pair_in k own ≡ P → pair_in k cross ≡ Q
    → own.picked ≡ pick_of (pair_in k own) → cross.picked ≡ pick_of (pair_in k cross)
    → right_total (eqb free 1) (cells_of x) (through_time (pair_cells cross) (cells_of y)) (left_time (pair_cells own) (cells_of z)) ≡ right_at k e a o c d P Q
unfolding right_at
right_assembled k e a o c d x y z own cross f p q r s t i j =
    rw f
    (right_same k (is_free (read_approach e a)) x (through_time (pair_cells cross) (cells_of y)) (left_time (pair_cells own) (cells_of z))
    ∙ rw (through_same cross y k j, left_same own z k i, p, q, r, s, t))

pub last_assembled :
    (k : Worksheet) (e : List ℕ) (along across : Pair) {eb wb nb sb : ℕ} → pair_in k along ≡ pair_at k e EB WB → pair_in k across ≡ pair_at k e NB SB
    → along.picked ≡ pick_of (pair_in k along) → across.picked ≡ pick_of (pair_in k across)
    → eb ≡ right_at k e EB WB SB NB (pair_at k e EB WB) (pair_at k e NB SB) → wb ≡ right_at k e WB EB NB SB (pair_at k e EB WB) (pair_at k e NB SB)
    → nb ≡ right_at k e NB SB EB WB (pair_at k e NB SB) (pair_at k e EB WB) → sb ≡ right_at k e SB NB WB EB (pair_at k e NB SB) (pair_at k e EB WB)
    → last_of eb wb nb sb (picked_time (pair_cells along) + picked_time (pair_cells across)) (cycle e) ≡ last_at k e
unfolding last_at
last_assembled k e along across p q i j r s t u = rw (picked_same along k i, picked_same across k j, p, q, r, s, t, u)

pub sheet_assembled :
    (k : Worksheet) (e : List ℕ) {eb wb nb sb ew ns last : List ℕ}
    → eb ≡ lines_at k e EB WB → wb ≡ lines_at k e WB EB → nb ≡ lines_at k e NB SB → sb ≡ lines_at k e SB NB
    → ew ≡ pair_at k e EB WB → ns ≡ pair_at k e NB SB → last ≡ last_at k e
    → e ++ (eb ++ wb) ++ (nb ++ sb) ++ (ew ++ ns ++ last) ≡ sheet_for k e
unfolding sheet_for
sheet_assembled k e p q r s t u l = rw (p, q, r, s, t, u, l) (simp append_assoc)
