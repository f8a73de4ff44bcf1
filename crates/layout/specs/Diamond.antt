-- Request Two, the record, of 191 numbers with Request Six: "the west junction's entries, the east's .., storages .. for WB left, EB left, the road
-- eastbound (west ramp's left) and westbound, travel time": where each stands; and where the 29 cells do that are worked out of them.
use Rattle.std.specs.Prelude.{ℕ, ◌+◌, ◌*◌}
use Rattle.layout.specs.Entries.{entry_count, cycle_entry}
use Rattle.layout.specs.declared.Worksheet.TheVariants.{Junction}
use Rattle.layout.specs.Sheet.{sheet_count}

-- past the west junction's entries
abbrev pub east_from : ℕ
east_from = entry_count

-- "same cycle, else 3" at its place, 185
abbrev pub east_cycle : ℕ
east_cycle = east_from + cycle_entry

abbrev pub storages_from : ℕ
storages_from = east_from + entry_count

-- WB left and EB left, which leave the arterial; the road eastbound and westbound, for the lefts off the west and the east ramp
abbrev pub storage_count : ℕ
storage_count = 4

abbrev pub travel_place : ℕ
travel_place = storages_from + storage_count

abbrev pub record_count : ℕ
record_count = travel_place + 1

-- a side is the west junction or the east
abbrev pub side_count : ℕ
side_count = 2

-- the interchange times of a side: "west EBT, EBR, WBL, WBT, SBL, SBT, SBR, east WBT, WBR, EBL, EBT, NBL, NBT, NBR"
abbrev pub side_times : ℕ
side_times = 7

-- past them "isolated 1 west and east, alternate west and east, combined west and east, overlap west and east"
abbrev pub isolated_cell : ℕ
isolated_cell = side_times * side_count

abbrev pub alternate_cell : ℕ
alternate_cell = isolated_cell + side_count

abbrev pub combined_from : ℕ
combined_from = alternate_cell + side_count

abbrev pub overlap_cell : ℕ
overlap_cell = combined_from + side_count

-- "leading alternate, lagging, lead-lag", and which of them is picked
abbrev pub plan_from : ℕ
plan_from = overlap_cell + side_count

abbrev pub plan_count : ℕ
plan_count = 3

abbrev pub plan_pick : ℕ
plan_pick = plan_from + plan_count

-- "best, ICU in tenths, letter"
abbrev pub best_cell : ℕ
best_cell = plan_pick + 1

abbrev pub diamond_icu : ℕ
diamond_icu = best_cell + 1

abbrev pub diamond_letter : ℕ
diamond_letter = diamond_icu + 1

abbrev pub diamond_count : ℕ
diamond_count = diamond_letter + 1

-- what a page shows, in one list: the sheets of both junctions, the record's own numbers, the cells, and of each storage
-- N, 3600 times the storage, and whether its ratio is below 1
abbrev pub page_own : ℕ
page_own = sheet_count Junction * side_count

abbrev pub page_cells : ℕ
page_cells = page_own + storage_count + 1

abbrev pub page_volumes : ℕ
page_volumes = page_cells + diamond_count

abbrev pub page_rooms : ℕ
page_rooms = page_volumes + storage_count

abbrev pub page_fits : ℕ
page_fits = page_rooms + storage_count

abbrev pub diamond_page_count : ℕ
diamond_page_count = page_fits + storage_count
