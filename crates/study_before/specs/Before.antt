-- The entries of a site as paper 01 has them, before movements had a measured lane factor; and what they are today: Request Six,
-- ""ICUS" is still read, measured factor 0".
use Rattle.std.specs.Prelude.{ℕ, ◌+◌, ◌-◌, ◌*◌, ◌/◌, ◌%◌, cond, ◌&&◌, List, eqb, ltb, get_or}
use Rattle.lists.specs.Lists.{table}
use Rattle.layout.specs.Entries.{approach_count, movement_count, movement_entries, factor_no, approaches_from, approach_entries, entry_count}

-- "Movement m has entries 5m to 5m+4"
abbrev pub movement_before : ℕ
movement_before = 5

-- "Approach a has 60+5a onward"
abbrev pub approaches_before : ℕ
approaches_before = movement_before * movement_count

-- "Entry 80 is the cycle"
abbrev pub cycle_before : ℕ
cycle_before = approaches_before + approach_entries * approach_count

-- "81 entries"
abbrev pub entries_before : ℕ
entries_before = cycle_before + 1

-- where the entry stood that stands at place i today, unless it is a measured lane factor: each movement has its first entries, and
-- past the movements all stand in the same order
abbrev pub place_before : ℕ → ℕ
place_before i =
    cond (ltb i approaches_from) (movement_before * (i / movement_entries) + i % movement_entries) (i - (approaches_from - approaches_before))

-- "0 for the table's"
unfoldable pub widened_at : List ℕ → ℕ → ℕ
widened_at e i = cond (ltb i approaches_from && eqb (i % movement_entries) factor_no) 0 (get_or e (place_before i) 0)

unfoldable pub widened : List ℕ → List ℕ
widened e = table (widened_at e) entry_count
