-- The 93 entries: an entry of a movement and of an approach, by its place in the list.
use Rattle.std.specs.Prelude.{List, ℕ, get_or}
use Rattle.layout.specs.Entries.{movement_place, approach_place, cycle_entry, lanes_no, volume_no, shared_no}

-- "Movement m then has entries 6m to 6m+5": number j of them
unfoldable pub movement_entry : List ℕ → ℕ → ℕ → ℕ
movement_entry e m j = get_or e (movement_place m j) 0

-- "approach a 72+5a onward": number j of them
unfoldable pub approach_entry : List ℕ → ℕ → ℕ → ℕ
approach_entry e a j = get_or e (approach_place a j) 0

-- "the cycle is entry 92"
abbrev pub cycle : List ℕ → ℕ
cycle e = get_or e cycle_entry 0

-- lanes and vehicles per hour of movement m
abbrev pub lanes : List ℕ → ℕ → ℕ
lanes e m = movement_entry e m lanes_no

abbrev pub volume : List ℕ → ℕ → ℕ
volume e m = movement_entry e m volume_no

-- shared left-through lane of approach a
abbrev pub shared : List ℕ → ℕ → ℕ
shared e a = approach_entry e a shared_no
