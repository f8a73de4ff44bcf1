-- "What an amendment reaches", over the kind of the amended entry and the cell. The list names lines and pairs; which cells these are
-- goes by the sheet's kind: on a single point's, Request Seven, "cut to the cells this sheet has (the pair's total for its pair cells)".
use Rattle.std.specs.Prelude.{Bool, true, false, cond, ◌&&◌, ◌||◌, Option, None, Some, List, [], ◌∷◌, ℕ, suc, ◌-◌, ◌/◌, ◌%◌, leb, ltb, eqb}
use Rattle.layout.specs.Entries.{group_count, movement_entries, approaches_from, approach_entries, entry_count}
use Rattle.layout.specs.declared.Worksheet.{Worksheet}
use Rattle.layout.specs.Sheet.{line_count, lines_from, pair_cells, pairs_from, last_from}
use Rattle.kinds.specs.declared.Kind.{Kind}
use Rattle.kinds.specs.declared.Kind.TheVariants.{Lanes, Volume, IdealFlow, LostTime, MinimumGreen, LaneFactor, Cycle, Storage, TravelTime}
use Rattle.kinds.specs.declared.Kind.TheVariants.{SharedLane, Pedestrians, PushButton, PedestrianTime, FreeRight}
use Rattle.kinds.specs.Kinds.{kind_at}
use Rattle.sheet_cells.specs.Cells.{opposite}
use Rattle.amend_reach.specs.declared.Named.{Named}
use Rattle.amend_reach.specs.declared.Named.TheVariants.{All, Times, Walkers, Button, Crossing}
use Rattle.amend_reach.specs.declared.Reach.{Reach}

abbrev pub among : ℕ → List ℕ → Bool
among n [] = false
among n (x ∷ xs) = eqb n x || among n xs

-- the own lines that the list names together
abbrev pub names : Option Named → ℕ → Bool
names None n = false
names (Some All) n = true
names (Some Times) n = among n (16 ∷ 17 ∷ 18 ∷ 26 ∷ 28 ∷ [])
names (Some Walkers) n = among n (10 ∷ 11 ∷ 12 ∷ 14 ∷ 15 ∷ 17 ∷ 18 ∷ 23 ∷ 24 ∷ 25 ∷ 26 ∷ 27 ∷ 28 ∷ [])
names (Some Button) n = among n (12 ∷ 17 ∷ 26 ∷ 28 ∷ [])
names (Some Crossing) n = among n (17 ∷ 26 ∷ 28 ∷ [])

-- "the opposite approach's 21–26", where they are reached
abbrev pub first_facing : ℕ
first_facing = 21

abbrev pub last_facing : ℕ
last_facing = 26

abbrev pub faces : Bool → ℕ → Bool
faces looks n = looks && (leb first_facing n && leb n last_facing)

-- "own 1–28 and the opposite approach's 21–26", and "all but free right also the approach's pair cells"
abbrev pub both_ways : Reach
both_ways = record { own = Some All; facing = true; pair = true; everywhere = false }

-- own lines, and the pair cells
abbrev pub own : Named → Reach
own lines = record { own = Some lines; facing = false; pair = true; everywhere = false }

-- "free right: none more"
abbrev pub none_more : Reach
none_more = record { own = None; facing = false; pair = false; everywhere = false }

-- "CL: every line and pair cell": those of the street that crosses, too
abbrev pub every_line : Reach
every_line = record { own = Some All; facing = true; pair = true; everywhere = true }

-- the list: a row for each kind; a measured lane factor "reaches what lanes reach"; no entry of a sheet is of the last two
abbrev pub reach_of : Kind → Reach
reach_of Lanes = both_ways
reach_of Volume = both_ways
reach_of IdealFlow = both_ways
reach_of LostTime = own Times
reach_of MinimumGreen = own Times
reach_of LaneFactor = both_ways
reach_of SharedLane = both_ways
reach_of Pedestrians = own Walkers
reach_of PushButton = own Button
reach_of PedestrianTime = own Crossing
reach_of FreeRight = none_more
reach_of Cycle = every_line
reach_of Storage = none_more
reach_of TravelTime = none_more

-- the approach of an entry: that of its movement, or the one whose own it is
unfoldable pub approach_at : ℕ → ℕ
approach_at i = cond (ltb i approaches_from) (i / movement_entries / group_count) ((i - approaches_from) / approach_entries)

-- whether a change of an entry of approach a reaches line n of approach c
unfoldable pub reached_line : Reach → ℕ → ℕ → ℕ → Bool
reached_line reach a c n =
    reach.everywhere || cond (eqb c a) (names reach.own n) (cond (eqb c (opposite a)) (faces reach.facing n) false)

-- and the cells of pair q
unfoldable pub reached_pair : Reach → ℕ → ℕ → Bool
reached_pair reach a q = reach.everywhere || (eqb q (a / 2) && reach.pair)

-- whether an amendment of entry i reaches a cell of a sheet of kind k: "besides the entry itself: always the last 8"
unfoldable pub reached : Worksheet → ℕ → ℕ → Bool
reached k i cell =
    cond (ltb cell entry_count) (eqb cell i)
    (cond (ltb cell (pairs_from k))
    (reached_line (reach_of (kind_at i)) (approach_at i) ((cell - lines_from) / line_count k) (suc ((cell - lines_from) % line_count k)))
    (cond (ltb cell (last_from k)) (reached_pair (reach_of (kind_at i)) (approach_at i) ((cell - pairs_from k) / pair_cells k)) true))

-- "reached cells hold the fresh-fill value of the amended entries; the others stay, whatever they held"
unfoldable pub merged_from : (ℕ → Bool) → ℕ → List ℕ → List ℕ → List ℕ
merged_from m cell [] old = []
merged_from m cell (x ∷ fresh) [] = []
merged_from m cell (x ∷ fresh) (y ∷ old) = cond (m cell) x y ∷ merged_from m (suc cell) fresh old

abbrev pub merged : Worksheet → ℕ → List ℕ → List ℕ → List ℕ
merged k i fresh old = merged_from (reached k i) 0 fresh old
