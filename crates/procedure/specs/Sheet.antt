-- The sheet is the entries, "28 lines of each approach, 4 cells of each pair, the last 8"; of a single point, Request Seven, "the entries,
-- lines 1–18 of each approach, two protected totals and the last eight". k is the sheet's kind.
use Rattle.std.specs.Prelude.{◌||◌, List, [], ◌∷◌, ◌++◌, ℕ, ◌+◌, max}
use Rattle.layout.specs.declared.Worksheet.{Worksheet}
use Rattle.layout.specs.declared.Worksheet.TheVariants.{Junction}
use Rattle.layout.specs.Entries.{EB, WB, NB, SB}
use Rattle.entries.specs.Layout.{cycle}
use Rattle.procedure.specs.Approach.{read_approach, is_shared, is_free}
use Rattle.procedure.specs.Lines.{lines_for}
use Rattle.procedure.specs.Pairs.{pair_for, picked_time, through_time, left_time, right_total, icu_of, letter_of}

-- the lines of approach a, with o opposite it
unfoldable pub lines_at : Worksheet → List ℕ → ℕ → ℕ → List ℕ
lines_at k e a o = lines_for k (read_approach e a) (read_approach e o) (cycle e)

-- the cells of the pair of approaches a and o
unfoldable pub pair_at : Worksheet → List ℕ → ℕ → ℕ → List ℕ
pair_at k e a o = pair_for k (is_shared (read_approach e a) || is_shared (read_approach e o)) (lines_at k e a o) (lines_at k e o a)

-- the right total of approach a: o is opposite it, c and its opposite d cross it, c's through from a's left hand
unfoldable pub right_at : Worksheet → List ℕ → ℕ → ℕ → ℕ → ℕ → List ℕ → List ℕ → ℕ
right_at k e a o c d own cross =
    right_total (is_free (read_approach e a)) (lines_at k e a o) (through_time cross (lines_at k e c d)) (left_time own (lines_at k e o a))

-- "Last eight cells: four right totals, combined, required, ICU, letter."
-- "Cross throughs of EBR, WBR, NBR, SBR are SBT, NBT, EBT, WBT."
unfoldable pub last_of : ℕ → ℕ → ℕ → ℕ → ℕ → ℕ → List ℕ
last_of eb wb nb sb combined CL =
    let required = max combined (max (max eb wb) (max nb sb)) in
    let icu = icu_of required CL in
    eb ∷ wb ∷ nb ∷ sb ∷ combined ∷ required ∷ icu ∷ letter_of icu ∷ []

unfoldable pub last_at : Worksheet → List ℕ → List ℕ
last_at k e =
    let ew = pair_at k e EB WB in
    let ns = pair_at k e NB SB in
    last_of (right_at k e EB WB SB NB ew ns) (right_at k e WB EB NB SB ew ns) (right_at k e NB SB EB WB ns ew) (right_at k e SB NB WB EB ns ew)
    (picked_time ew + picked_time ns) (cycle e)

unfoldable pub sheet_for : Worksheet → List ℕ → List ℕ
sheet_for k e =
    e
    ++ (lines_at k e EB WB ++ lines_at k e WB EB ++ lines_at k e NB SB ++ lines_at k e SB NB)
    ++ (pair_at k e EB WB ++ pair_at k e NB SB ++ last_at k e)

-- a junction's
abbrev pub sheet : List ℕ → List ℕ
sheet e = sheet_for Junction e
