-- The book's example 4, a single point: the entries of its page (Figure 10-8), and the cells that these rules give it, worked by a second
-- calculation. Where the page prints other figures, docs/DIFFERENCES.md says why.
use Rattle.std.specs.Prelude.{List, [], ◌∷◌, ◌++◌, ℕ, drop}
use Rattle.layout.specs.declared.Worksheet.TheVariants.{Point}
use Rattle.layout.specs.Entries.{entry_count}
use Rattle.layout.specs.Sheet.{icu_cell}
use Rattle.point_start.specs.Start.{start_entries}
use Rattle.procedure.specs.Sheet.{sheet_for}

-- a movement: lanes, volume and lost time; "ideal flow 2000", "minimum green 8"; no measured lane factor
abbrev pub movement : ℕ → ℕ → ℕ → List ℕ
movement lanes volume lost = lanes ∷ volume ∷ 2_000 ∷ lost ∷ 8_000 ∷ 0 ∷ []

-- "lost time 8" for lefts, "6" for the rest
abbrev pub leg : ℕ → ℕ → ℕ → ℕ → ℕ → ℕ → List ℕ
leg lefts v_l throughs v_t rights v_r = movement lefts v_l 8_000 ++ movement throughs v_t 6_000 ++ movement rights v_r 6_000

-- pedestrians, button, pedestrian time and free right; no lane is shared
abbrev pub side : ℕ → ℕ → ℕ → ℕ → List ℕ
side walkers button crossing free = 0 ∷ walkers ∷ button ∷ crossing ∷ free ∷ []

abbrev pub example4 : List ℕ
example4 =
    leg 2 500 3 2_200 1 300 ++ leg 2 700 3 1_500 1 800 ++ leg 2 800 0 0 1 200 ++ leg 2 900 0 0 2 800
    ++ side 12 1 24_000 1 ++ side 0 1 24_000 0 ++ side 0 0 20_000 0 ++ side 0 0 20_000 1
    ++ (120 ∷ [])

-- past the entries: lines 1–18 of EB, WB, NB, SB, the two protected totals, and the last eight, 102.1 % and G
abbrev pub cells4 : List ℕ
cells4 = drop entry_count (sheet_for Point example4)

abbrev pub given4 : List ℕ
given4 =
    500 ∷ 2_200 ∷ 300 ∷ 10_000 ∷ 36_898 ∷ 54_480 ∷ 17_000 ∷ 54_480 ∷ 36_898
    ∷ 1_469 ∷ 0 ∷ 3_297 ∷ 16_262 ∷ 48_459 ∷ 22_646 ∷ 24_262 ∷ 54_459 ∷ 28_646
    ∷ 700 ∷ 1_500 ∷ 800 ∷ 10_000 ∷ 36_898 ∷ 54_480 ∷ 17_000 ∷ 54_480 ∷ 36_898
    ∷ 0 ∷ 0 ∷ 0 ∷ 22_766 ∷ 33_040 ∷ 56_471 ∷ 30_766 ∷ 39_040 ∷ 62_471
    ∷ 800 ∷ 0 ∷ 200 ∷ 10_000 ∷ 36_898 ∷ 0 ∷ 17_000 ∷ 0 ∷ 36_898
    ∷ 0 ∷ 0 ∷ 0 ∷ 26_018 ∷ 0 ∷ 14_118 ∷ 34_018 ∷ 0 ∷ 20_118
    ∷ 900 ∷ 0 ∷ 800 ∷ 10_000 ∷ 36_898 ∷ 0 ∷ 30_090 ∷ 0 ∷ 36_898
    ∷ 0 ∷ 0 ∷ 0 ∷ 29_270 ∷ 0 ∷ 31_905 ∷ 37_270 ∷ 0 ∷ 37_905
    ∷ 85_225 ∷ 37_270
    ∷ 28_646 ∷ 86_733 ∷ 111_847 ∷ 37_905 ∷ 122_495 ∷ 122_495 ∷ 1_021 ∷ 6 ∷ []

-- the ICU and the letter of the starting entries: 0 and A
abbrev pub start_rated : List ℕ
start_rated = drop (icu_cell Point) (sheet_for Point start_entries)

abbrev pub start_given : List ℕ
start_given = 0 ∷ 0 ∷ []
