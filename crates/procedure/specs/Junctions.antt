-- "Junctions to compare": K1 to K10, their flows in tenths of a vehicle per hour (Request Five).
use Rattle.std.specs.Prelude.{List, [], ◌∷◌, ◌++◌, ℕ, ◌*◌, get_or, set}
use Rattle.units.specs.Unit.{whole}
use Rattle.line_decay.specs.Decay.{decay_number}
use Rattle.procedure.specs.Approach.{read_approach}
use Rattle.procedure.specs.Lines.{left_share, equivalent, left_a}
use Rattle.procedure.specs.Pairs.{line, letter_of}
use Rattle.layout.specs.Entries.{EB, WB, left, through, volume_no, factor_no, walkers_no, crossing_no, movement_place, approach_place}
use Rattle.layout.specs.declared.Worksheet.TheVariants.{Junction}
use Rattle.layout.specs.Sheet.{BLANK, protected_cell, permitted_cell, split_cell, pick_cell, combined_cell, required_cell, icu_cell, letter_cell}
use Rattle.procedure.specs.Sheet.{lines_at, sheet}

-- a movement: lanes and volume; "flows 1,900, lost and minimum 4,000"; no measured lane factor
abbrev pub movement : ℕ → ℕ → List ℕ
movement lanes volume = lanes ∷ volume ∷ 1_900 ∷ 4_000 ∷ 4_000 ∷ 0 ∷ []

-- an approach's own: shared or not; "no pedestrians, button, pedestrian time 16,000"
abbrev pub side : ℕ → List ℕ
side shared = shared ∷ 0 ∷ 1 ∷ 16_000 ∷ 0 ∷ []

abbrev pub four : List ℕ → List ℕ
four x = x ++ x ++ x ++ x

-- four approaches alike, "CL 120"
abbrev pub alike : List ℕ → ℕ → List ℕ
alike movements shared = four movements ++ four (side shared) ++ (120 ∷ [])

-- "K1: each approach 1 left and 1 through lane, volumes 100, 400, 0"
abbrev pub K1 : List ℕ
K1 = alike (movement 1 100 ++ movement 1 400 ++ movement 0 0) 0

-- "K2: one shared lane each, 100, 300, 100, else as K1"
abbrev pub K2 : List ℕ
K2 = alike (movement 0 100 ++ movement 1 300 ++ movement 0 100) 1

-- "K3: p 60, CL 120, button": K1 with 60 pedestrians and a pedestrian time of 40,000 on EB
abbrev pub K3 : List ℕ
K3 = set (set K1 (approach_place EB walkers_no) 60) (approach_place EB crossing_no) 40_000

-- "K4: K1 without volumes"
abbrev pub K4 : List ℕ
K4 = alike (movement 1 0 ++ movement 1 0 ++ movement 0 0) 0

-- "K7, K8: K1 with WB through 120", 121
abbrev pub K7 : List ℕ
K7 = set K1 (movement_place (through WB) volume_no) 120

abbrev pub K8 : List ℕ
K8 = set K1 (movement_place (through WB) volume_no) 121

-- "K9, K10: K1 with EB left 59", 60
abbrev pub K9 : List ℕ
K9 = set K1 (movement_place (left EB) volume_no) 59

abbrev pub K10 : List ℕ
K10 = set K1 (movement_place (left EB) volume_no) 60

-- EB's lines, and a cell of the sheet
abbrev pub eb : List ℕ → List ℕ
eb e = lines_at Junction e EB WB

abbrev pub cell : List ℕ → ℕ → ℕ
cell e k = get_or (sheet e) k 0

-- every number that the paper gives for K1 to K10, worked out: a row for each junction
abbrev pub worked_out : List (List ℕ)
worked_out =
    (line 5 (eb K1) ∷ line 6 (eb K1) ∷ line 13 (eb K1) ∷ line 16 (eb K1) ∷ line 14 (eb K1) ∷ line 17 (eb K1) ∷ cell K1 (protected_cell 0)
    ∷ cell K1 (required_cell Junction) ∷ cell K1 (icu_cell Junction) ∷ cell K1 (letter_cell Junction) ∷ [])
    ∷ (line 4 (eb K2) ∷ line 6 (eb K2) ∷ line 20 (eb K2) ∷ line 21 (eb K2) ∷ line 22 (eb K2) ∷ line 23 (eb K2) ∷ cell K2 (split_cell 0)
    ∷ cell K2 (permitted_cell 0) ∷ cell K2 (pick_cell 0) ∷ cell K2 (combined_cell Junction) ∷ cell K2 (icu_cell Junction) ∷ cell K2 (letter_cell Junction) ∷ [])
    ∷ (decay_number (2 * 60 * 120) ∷ line 12 (eb K3) ∷ line 17 (eb K3) ∷ [])
    ∷ (cell K4 (icu_cell Junction) ∷ cell K4 (letter_cell Junction) ∷ cell K4 (pick_cell 0) ∷ cell K4 (pick_cell 1) ∷ [])
    ∷ (letter_of 550 ∷ [])
    ∷ (letter_of 551 ∷ [])
    ∷ (line 24 (eb K7) ∷ [])
    ∷ (line 24 (eb K8) ∷ [])
    ∷ (line 5 (eb K9) ∷ line 23 (eb K9) ∷ equivalent whole (left_share (read_approach K9 WB)) 120
    ∷ left_a (read_approach K9 EB) (read_approach K9 WB) 120 ∷ [])
    ∷ (line 23 (eb K10) ∷ [])
    ∷ []

-- the letters, and the phasings
abbrev pub A : ℕ
A = 0

abbrev pub B : ℕ
B = 1

abbrev pub C : ℕ
C = 2

abbrev pub letter_e : ℕ
letter_e = 4

abbrev pub P : ℕ
P = 0

abbrev pub M : ℕ
M = 1

-- and as the papers give them
abbrev pub given : List (List ℕ)
given =
    (18_050 ∷ 19_000 ∷ 6_649 ∷ 10_649 ∷ 25_264 ∷ 29_264 ∷ 39_913 ∷ 79_826 ∷ 666 ∷ C ∷ [])
    ∷ (9_603 ∷ 18_245 ∷ 2_000 ∷ 29_455 ∷ 13_132 ∷ 45_690 ∷ 73_772 ∷ 49_690 ∷ M ∷ 99_380 ∷ 829 ∷ letter_e ∷ [])
    ∷ (135_335_283 ∷ 8_647 ∷ 42_007 ∷ [])
    ∷ (0 ∷ A ∷ P ∷ P ∷ [])
    ∷ (A ∷ [])
    ∷ (B ∷ [])
    ∷ (25_264 ∷ [])
    ∷ (BLANK ∷ [])
    ∷ (18_050 ∷ 117_804 ∷ 300_000 ∷ 601 ∷ [])
    ∷ (BLANK ∷ [])
    ∷ []

-- Request Six, worked by hand: K1 with EB's one through lane measured at 950 thousandths; K2, whose lanes are shared, with EB's left at 800
-- and its through at 900, of which line 9 takes the left's
abbrev pub M1 : List ℕ
M1 = set K1 (movement_place (through EB) factor_no) 950

abbrev pub M2 : List ℕ
M2 = set (set K2 (movement_place (left EB) factor_no) 800) (movement_place (through EB) factor_no) 900

abbrev pub measured_out : List (List ℕ)
measured_out =
    (line 5 (eb M1) ∷ line 6 (eb M1) ∷ line 8 (eb M1) ∷ line 9 (eb M1) ∷ line 14 (eb M1) ∷ cell M1 (protected_cell 0) ∷ [])
    ∷ (line 6 (eb M2) ∷ line 8 (eb M2) ∷ line 9 (eb M2) ∷ line 14 (eb M2) ∷ [])
    ∷ []

abbrev pub measured_given : List (List ℕ)
measured_given = (18_050 ∷ 18_050 ∷ 18_050 ∷ 18_050 ∷ 26_593 ∷ 41_242 ∷ []) ∷ (16_421 ∷ 16_458 ∷ 14_440 ∷ 36_539 ∷ []) ∷ []
