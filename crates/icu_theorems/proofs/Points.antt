-- What is said of a single point: who is refused, whose lines it has, how its right totals go, and what it begins with.
use mathlib.Core.Path.{◌≡◌, refl, sym, ◌∙◌, ap}
use mathlib.Core.List.{List, [], ◌∷◌}
use Prim.Native.Nat.{ℕ, ◌+◌, ◌<◌}
use native.Mathlib.Omega.{arith}
use lib.Dec.{eqb}
use lib.ListN.{length, get_or}
use lib.Seq.{get_or-take}
use Rattle.answers.specs.Answers.{◌then◌, lowest, in_turn}
use Rattle.answers.specs.declared.Answer.{Answer}
use Rattle.answers.specs.declared.Answer.TheVariants.{Accepted, Refused}
use Rattle.answers.specs.declared.Refusal.TheVariants.{Shared}
use Rattle.layout.specs.declared.Worksheet.{Worksheet}
use Rattle.layout.specs.declared.Worksheet.TheVariants.{Junction, Point}
use Rattle.layout.specs.Entries.{approach_count, entry_count}
use Rattle.layout.specs.Sheet.{line_count, lines_of}
use Rattle.kinds.specs.Kinds.{kind_at}
use Rattle.entries.specs.declared.Fault.TheVariants.{Range, NoLane}
use Rattle.entries.specs.Layout.{cycle, movement_entry, approach_entry, shared}
use Rattle.entries.specs.Judging.{size_answer, outside, badly_shared, other_lanes, unserved, judged_for, judged}
use Rattle.entries.proofs.Laws.{checked}
use Rattle.procedure.specs.Approach.{read_approach, is_free}
use Rattle.procedure.specs.Lines.{lines}
use Rattle.procedure.specs.Pairs.{line, through_time, left_time, right_total}
use Rattle.procedure.specs.Points.{example4}
use Rattle.procedure.specs.Sheet.{lines_at, right_at, sheet_for, sheet}
use Rattle.procedure.proofs.Worksheets.{lines_front}
use Rattle.sheet_cells.specs.Cells.{opposite}
use Rattle.sheet_cells.proofs.Cells.{line_cell}

-- the last check decides where those beside it accept
alone : (a : Answer) → (a then Accepted) ≡ a
alone Accepted = refl
alone (Refused why place) = refl

pub no_shared_lane : (e : List ℕ) → judged e ≡ Accepted → judged_for Point e ≡ lowest (λ a. eqb (shared e a) 1) Shared 0 approach_count
unfolding judged_for badly_shared
no_shared_lane e ok =
    let c = checked Junction e ok in
    rw (c.size, c.fault Range, c.fault NoLane) (alone (lowest (λ a. eqb (shared e a) 1) Shared 0 approach_count))

-- a line of a sheet of kind k is one of all 28
line_of_all :
    (k : Worksheet) (e : List ℕ) → length e ≡ entry_count → (a t : ℕ) → a < approach_count → t < line_count k
    → get_or (sheet_for k e) (lines_of k a + t) 0 ≡ get_or (lines (read_approach e a) (read_approach e (opposite a)) (cycle e)) t 0
unfolding lines_at
line_of_all k e long a t h p =
    let s = read_approach e a in
    let o = read_approach e (opposite a) in
    line_cell k e long a t h p
    ∙ ap (λ (l : List ℕ). get_or l t 0) (lines_front k s o (cycle e))
    ∙ get_or-take (line_count k) (lines s o (cycle e)) t 0 p

pub same_lines :
    (e : List ℕ) → length e ≡ entry_count → (a t : ℕ) → a < approach_count → t < line_count Point
    → get_or (sheet_for Point e) (lines_of Point a + t) 0 ≡ get_or (sheet e) (lines_of Junction a + t) 0
same_lines e long a t h p = line_of_all Point e long a t h p ∙ sym (line_of_all Junction e long a t h (omega arith))

pub protected_rights :
    (e : List ℕ) (a o c d along across : ℕ)
    → right_at Point e a o c d (along ∷ []) (across ∷ [])
    ≡ right_total (is_free (read_approach e a)) (lines_at Point e a o) (line 17 (lines_at Point e c d)) (line 16 (lines_at Point e o a))
unfolding right_at through_time left_time
protected_rights e a o c d along across = refl

pub example4_accepted : judged_for Point example4 ≡ Accepted
unfolding in_turn kind_at movement_entry approach_entry size_answer outside badly_shared other_lanes unserved judged_for
example4_accepted = refl
