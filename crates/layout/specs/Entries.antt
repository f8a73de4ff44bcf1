-- "The entries", 93 with Request Six: how many there are of each, and where each stands, every number from those before it.
use Rattle.std.specs.Prelude.{ℕ, ◌+◌, ◌*◌}

-- "Approaches stand in the order EB, WB, NB, SB (0 to 3)"
abbrev pub approach_count : ℕ
approach_count = 4

-- "left, through, right of each"
abbrev pub group_count : ℕ
group_count = 3

-- "movements 0 to 11"
abbrev pub movement_count : ℕ
movement_count = group_count * approach_count

-- "Movement m has entries 6m to 6m+5": "lanes, vehicles per hour, ideal flow, lost time, minimum green", and "a sixth entry, its
-- measured lane factor"
abbrev pub lanes_no : ℕ
lanes_no = 0

abbrev pub volume_no : ℕ
volume_no = 1

abbrev pub ideal_no : ℕ
ideal_no = 2

abbrev pub lost_no : ℕ
lost_no = 3

abbrev pub green_no : ℕ
green_no = 4

abbrev pub factor_no : ℕ
factor_no = 5

abbrev pub movement_entries : ℕ
movement_entries = 6

-- "Approach a 72+5a onward": past the movements' entries
abbrev pub approaches_from : ℕ
approaches_from = movement_entries * movement_count

-- "shared left-through lane, pedestrians per hour, push button, pedestrian time, free right"
abbrev pub shared_no : ℕ
shared_no = 0

abbrev pub walkers_no : ℕ
walkers_no = 1

abbrev pub button_no : ℕ
button_no = 2

abbrev pub crossing_no : ℕ
crossing_no = 3

abbrev pub free_no : ℕ
free_no = 4

abbrev pub approach_entries : ℕ
approach_entries = 5

-- "The cycle is entry 92": past the approaches' entries
abbrev pub cycle_entry : ℕ
cycle_entry = approaches_from + approach_entries * approach_count

abbrev pub entry_count : ℕ
entry_count = cycle_entry + 1

-- entry j of movement m, and of approach a
abbrev pub movement_place : ℕ → ℕ → ℕ
movement_place m j = movement_entries * m + j

abbrev pub approach_place : ℕ → ℕ → ℕ
approach_place a j = approaches_from + approach_entries * a + j

-- the movements of approach a
abbrev pub left : ℕ → ℕ
left a = group_count * a

abbrev pub through : ℕ → ℕ
through a = group_count * a + 1

abbrev pub right : ℕ → ℕ
right a = group_count * a + 2

-- the approaches, by name
abbrev pub EB : ℕ
EB = 0

abbrev pub WB : ℕ
WB = 1

abbrev pub NB : ℕ
NB = 2

abbrev pub SB : ℕ
SB = 3
