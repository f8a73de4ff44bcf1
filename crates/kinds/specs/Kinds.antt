-- The kinds of entries, their limits, and which kind stands at an entry's place.
use Rattle.std.specs.Prelude.{◌≡◌, Bool, cond, ◌&&◌, ◌||◌, [], ◌∷◌, ℕ, zero, suc, ◌-◌, ◌%◌, ◌≤◌, min, max, eqb, leb, ltb, get_or}
use Rattle.layout.specs.Entries.{movement_entries, approaches_from, approach_entries, cycle_entry, group_count}
use Rattle.kinds.specs.declared.Limits.{Limits}
use Rattle.kinds.specs.declared.Group.{Group}
use Rattle.kinds.specs.declared.Group.TheVariants.{Left, Through, Right}
use Rattle.kinds.specs.declared.Kind.{Kind}
use Rattle.kinds.specs.declared.Kind.TheVariants.{Lanes, Volume, IdealFlow, LostTime, MinimumGreen, LaneFactor}
use Rattle.kinds.specs.declared.Kind.TheVariants.{SharedLane, Pedestrians, PushButton, PedestrianTime, FreeRight, Cycle, Storage, TravelTime}

infix 40 ◌to◌usually◌
abbrev pub ◌to◌usually◌ : ℕ → ℕ → ℕ → Limits
least to most usually usual = record { least = least; most = most; usual = usual }

-- the limits of each kind, in the entries' order, then those of a diamond's own numbers, which no sheet has ("storages 1–999",
-- "travel time 0–60,000 ms"); "default flows (1,900)", and the other usual values as the book advises. A usual value may stand apart from
-- the range: of a measured lane factor, "in thousandths, 500–1,000, or 0 for the table's"
abbrev pub limits_of : Kind → Limits
limits_of Lanes = 0 to 6 usually 0
limits_of Volume = 0 to 9999 usually 0
limits_of IdealFlow = 1000 to 2400 usually 1900
limits_of LostTime = 0 to 20000 usually 4000
limits_of MinimumGreen = 0 to 60000 usually 4000
limits_of LaneFactor = 500 to 1000 usually 0
limits_of SharedLane = 0 to 1 usually 0
limits_of Pedestrians = 0 to 2000 usually 0
limits_of PushButton = 0 to 1 usually 0
limits_of PedestrianTime = 0 to 60000 usually 0
limits_of FreeRight = 0 to 1 usually 0
limits_of Cycle = 30 to 240 usually 120
limits_of Storage = 1 to 999 usually 1
limits_of TravelTime = 0 to 60000 usually 0

-- an entry of this kind is "in range", or has its usual value: all that judging, the constructors and their callers ask of a number
abbrev pub in_range : Kind → ℕ → Bool
in_range k x = eqb x (limits_of k).usual || (leb (limits_of k).least x && leb x (limits_of k).most)

-- the same as facts, for those who lean on it
pub record Within (k : Kind) (x : ℕ) : Type 0 where
  pub least : min (limits_of k).usual (limits_of k).least ≤ x
  pub most : x ≤ max (limits_of k).usual (limits_of k).most
  pub apart : (x ≡ (limits_of k).usual → ⊥) → (limits_of k).least ≤ x

-- "lanes, vehicles per hour, ideal flow, lost time, minimum green", "its measured lane factor": the entries of a movement, in order
abbrev pub movement_kind : ℕ → Kind
movement_kind j = get_or (Lanes ∷ Volume ∷ IdealFlow ∷ LostTime ∷ MinimumGreen ∷ LaneFactor ∷ []) j Cycle

-- "shared left-through lane, pedestrians per hour, push button, pedestrian time, free right": those of an approach
abbrev pub approach_kind : ℕ → Kind
approach_kind j = get_or (SharedLane ∷ Pedestrians ∷ PushButton ∷ PedestrianTime ∷ FreeRight ∷ []) j Cycle

-- "movement m then has entries 6m to 6m+5, approach a 72+5a onward, the cycle is entry 92"
unfoldable pub kind_at : ℕ → Kind
kind_at i =
    cond (ltb i approaches_from) (movement_kind (i % movement_entries))
    (cond (ltb i cycle_entry) (approach_kind ((i - approaches_from) % approach_entries)) Cycle)

-- "movements 0 to 11 are left, through, right of each"
abbrev pub group_at : ℕ → Group
group_at zero = Left
group_at (suc zero) = Through
group_at (suc (suc n)) = Right

abbrev pub group_of : ℕ → Group
group_of m = group_at (m % group_count)
