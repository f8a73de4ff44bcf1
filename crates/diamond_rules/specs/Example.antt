-- The book's example 3: "Main Street and Interstate 99", with a storage of 19.4 and one of 26.7 vehicles cut to whole ones.
use Rattle.std.specs.Prelude.{List, [], ◌∷◌, ◌++◌, ℕ}
use Rattle.layout.specs.Sheet.{BLANK}

-- lanes and volume; "The Ideal Saturation Flow is 2,000", "Minimum Green .. 4.0 seconds", "Lost Time .. 4.0 seconds"; the table's lane factors
abbrev pub movement : ℕ → ℕ → List ℕ
movement lanes volume = lanes ∷ volume ∷ 2_000 ∷ 4_000 ∷ 4_000 ∷ 0 ∷ []

-- no movement there
abbrev pub none : List ℕ
none = movement 0 0

-- an approach's own: no shared lane, no pedestrians; a free right or not
abbrev pub side : ℕ → List ℕ
side free = 0 ∷ 0 ∷ 0 ∷ 0 ∷ free ∷ []

-- EB, WB, NB, SB of the west junction, where the ramp comes from the north
abbrev pub west_entries : List ℕ
west_entries =
    (none ++ movement 2 500 ++ movement 0 200)
    ++ (movement 2 300 ++ movement 2 1_100 ++ none)
    ++ (none ++ none ++ none)
    ++ (movement 2 500 ++ movement 1 10 ++ movement 0 500)
    ++ (side 0 ++ side 0 ++ side 0 ++ side 0)
    ++ (120 ∷ [])

-- and of the east, where it comes from the south: "The WB right turn at the NB Ramp is a free movement"
abbrev pub east_entries : List ℕ
east_entries =
    (movement 1 200 ++ movement 2 800 ++ none)
    ++ (none ++ movement 2 600 ++ movement 1 200)
    ++ (movement 2 800 ++ none ++ movement 1 100)
    ++ (none ++ none ++ none)
    ++ (side 0 ++ side 1 ++ side 0 ++ side 0)
    ++ (120 ∷ [])

abbrev pub example3 : List ℕ
example3 = west_entries ++ east_entries ++ (19 ∷ 19 ∷ 26 ∷ 26 ∷ 7_100 ∷ [])

-- its cells, as they are worked by hand
abbrev pub cells3 : List ℕ
cells3 =
    (27_048 ∷ 0 ∷ 13_757 ∷ 38_664 ∷ 20_262 ∷ 39_878 ∷ 0 ∷ [])
    ++ (22_908 ∷ 0 ∷ 16_632 ∷ 29_211 ∷ 30_018 ∷ 0 ∷ 11_059 ∷ [])
    ++ (80_683 ∷ 69_558 ∷ 78_542 ∷ 59_229 ∷ 80_683 ∷ 69_558 ∷ 7_100 ∷ 7_100 ∷ [])
    ++ (105_652 ∷ BLANK ∷ BLANK ∷ 0 ∷ 105_652 ∷ 881 ∷ 4 ∷ [])
