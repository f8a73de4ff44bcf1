-- What the engineers work by hand beside the cells of a sheet of kind k: what a right total adds, and before it, where there is a line 23,
-- the left group's own lane behind it.
use Rattle.std.specs.Prelude.{cond, ◌||◌, List, [], ◌∷◌, ◌++◌, ℕ, ◌/◌, eqb, get_or, take, drop}
use Rattle.units.specs.Rounding.{up}
use Rattle.units.specs.Unit.{whole}
use Rattle.lists.specs.Lists.{over}
use Rattle.layout.specs.declared.Worksheet.{Worksheet}
use Rattle.layout.specs.declared.Worksheet.TheVariants.{Junction, Point}
use Rattle.layout.specs.Entries.{EB, WB, NB, SB, free_no, approach_place}
use Rattle.layout.specs.Sheet.{line_count, lines_of, in_pair, pair_cells, pair_of}
use Rattle.kinds.specs.declared.Group.TheVariants.{Left}
use Rattle.answers.specs.Answers.{left_by}
use Rattle.entries.specs.Layout.{cycle}
use Rattle.entries.specs.Judging.{judged_for}
use Rattle.procedure.specs.declared.Approach.{Approach}
use Rattle.procedure.specs.Approach.{n, read_approach}
use Rattle.procedure.specs.Lines.{volume, left_share, equivalent, left_a}
use Rattle.procedure.specs.Pairs.{line, through_time, left_time}
use Rattle.procedure.specs.Sheet.{sheet_for}

-- 23 "For L: vLL = ⌈vL/nL⌉, q = 10,000, with its own E, sA (from line 5), lanes."; a group without volume has none
unfoldable pub own_lane : Approach → Approach → ℕ → List ℕ
own_lane s o CL =
    cond (eqb (volume s Left) 0) (0 ∷ 0 ∷ 0 ∷ [])
    (up (volume s Left) (n s Left) ∷ equivalent whole (left_share o) CL ∷ left_a s o CL ∷ [])

-- a single point, with "lines 1–18", has no line 23
unfoldable pub lane_for : Worksheet → Approach → Approach → ℕ → List ℕ
lane_for Junction s o CL = own_lane s o CL
lane_for Point s o CL = []

-- the lines of approach a, and the cells of its pair, among a sheet's cells
abbrev pub lines_in : Worksheet → List ℕ → ℕ → List ℕ
lines_in k cells a = take (line_count k) (drop (lines_of k a) cells)

abbrev pub pair_in : Worksheet → List ℕ → ℕ → List ℕ
pair_in k cells a = take (pair_cells k) (drop (pair_of k (a / in_pair)) cells)

-- its line number i, and the pick of its pair: 0 where the pair has one total alone
abbrev pub line_in : Worksheet → List ℕ → ℕ → ℕ → ℕ
line_in k cells a i = line i (lines_in k cells a)

-- its through and its left: "Each goes by the pick of its own pair"
abbrev pub through_in : Worksheet → List ℕ → ℕ → ℕ
through_in k cells a = through_time (pair_in k cells a) (lines_in k cells a)

abbrev pub left_in : Worksheet → List ℕ → ℕ → ℕ
left_in k cells a = left_time (pair_in k cells a) (lines_in k cells a)

-- "line 18, plus the cross through and the oncoming left": what the right total of a adds, nothing "if line 3 is 0" or "if free";
-- o is opposite it, c's through crosses it
unfoldable pub added : Worksheet → List ℕ → ℕ → ℕ → ℕ → List ℕ
added k cells a o c =
    cond (eqb (line_in k cells a 3) 0 || eqb (get_or cells (approach_place a free_no) 0) 1) (0 ∷ 0 ∷ [])
    (through_in k cells c ∷ left_in k cells o ∷ [])

-- the numbers of approach a, of the entries e and their sheet
unfoldable pub beside_at : Worksheet → List ℕ → List ℕ → ℕ → ℕ → ℕ → List ℕ
beside_at k e cells a o c = lane_for k (read_approach e a) (read_approach e o) (cycle e) ++ added k cells a o c

-- "Cross throughs of EBR, WBR, NBR, SBR are SBT, NBT, EBT, WBT."
unfoldable pub beside_of : Worksheet → List ℕ → List ℕ → List ℕ
beside_of k e cells =
    beside_at k e cells EB WB SB ++ beside_at k e cells WB EB NB ++ beside_at k e cells NB SB EB ++ beside_at k e cells SB NB WB

abbrev pub beside : Worksheet → List ℕ → List ℕ
beside k e = beside_of k e (sheet_for k e)

-- the sheet of acceptable entries with what stands beside it, at the front of the list; else the list stays as it was
unfoldable pub filled_beside : Worksheet → List ℕ → List ℕ → List ℕ
filled_beside k e list = left_by (judged_for k e) (over list 0 (sheet_for k e ++ beside k e)) list
