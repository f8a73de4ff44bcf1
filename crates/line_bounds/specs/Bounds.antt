-- Working definitions: how large the lines of an acceptable approach can be, each bound once, worked out from the kinds' limits and the bounds before it.
use Rattle.std.specs.Prelude.{◌≡◌, List, ℕ, ◌+◌, ◌*◌, ◌/◌, ◌≤◌, max}
use Rattle.units.specs.Unit.{flow_unit, whole}
use Rattle.layout.specs.Entries.{group_count}
use Rattle.layout.specs.Sheet.{BLANK}
use Rattle.kinds.specs.declared.Kind.TheVariants.{Lanes, Volume, IdealFlow, LostTime, MinimumGreen, LaneFactor, PedestrianTime, Cycle}
use Rattle.kinds.specs.Kinds.{limits_of}
use Rattle.kinds.specs.Working.{most_of}
use Rattle.procedure.specs.Pairs.{line}

-- lines 1–3: all that an approach's movements count (29,997)
abbrev pub most_volume : ℕ
most_volume = group_count * most_of Volume

-- line 4: all turn right, at 85 of each hundred, and all turn left, at 95
abbrev pub least_turning : ℕ
least_turning = 85 * 95

-- line 8: all turn right
abbrev pub least_straight : ℕ
least_straight = 85 * 100

-- a lane factor in thousandths: none of Table 5-2 is outside of what may be measured
abbrev pub least_factor : ℕ
least_factor = (limits_of LaneFactor).least

abbrev pub most_factor : ℕ
most_factor = most_of LaneFactor

-- lines 5–9: what one lane carries at least, and six at most (4,037 and 144,000 tenths)
abbrev pub least_lane_flow : ℕ
least_lane_flow = (limits_of IdealFlow).least * least_factor * least_turning / (10_000_000 / flow_unit)

abbrev pub most_flow : ℕ
most_flow = most_of IdealFlow * most_of Lanes * flow_unit

-- how many times the flow that serves it a volume can be (75)
abbrev pub most_served : ℕ
most_served = most_volume * flow_unit / least_lane_flow + 1

-- a volume that can be timed: small enough, and its flow serves it
pub record Passes (v CL flow : ℕ) : Type 0 where
  pub counted : v ≤ most_volume
  pub cycle : CL ≤ most_of Cycle
  pub most : flow ≤ most_flow
  pub serves : flow_unit * v ≤ most_served * flow

-- 10, 11: "G = 24,000 − ⌊..⌋"
abbrev pub most_held : ℕ
most_held = 24_000

-- "1000·v·CL/flow", of a volume of k times the flow, both in one unit, in the longest cycle
abbrev pub most_time : ℕ → ℕ
most_time k = 1000 * most_of Cycle * k

-- 13–15 and 27 (18,024,000)
abbrev pub most_reference : ℕ
most_reference = most_time most_served + most_held

-- what lost time, minimum green and walkers add to a reference time (80,000)
abbrev pub most_added : ℕ
most_added = most_of LostTime + max (most_of MinimumGreen) (most_of PedestrianTime)

-- 16–18 and 28 (18,104,000)
abbrev pub most_adjusted : ℕ
most_adjusted = most_reference + most_added

-- 21: "num = 5·10⁸ + 80,000q − 3q²" is at most 1.3·10⁹, "10·den" at least 2·10⁵ (1,560,000)
abbrev pub most_num : ℕ
most_num = 1_300_000_000

abbrev pub most_equivalent : ℕ
most_equivalent = most_num * most_of Cycle / 200_000

-- 22: the inner quotient "⌊10¹²/(10⁸ + q(E−10⁴))⌋", whose divisor is at least 10⁴ (63 and 10⁸)
abbrev pub least_parts : ℕ
least_parts = 1_000_000_000_000 / (100_000_000 + whole * most_equivalent)

abbrev pub most_parts : ℕ
most_parts = 1_000_000_000_000 / whole

-- and what the lane carries (25 and 1,440,000,000 tenths)
abbrev pub least_mixed : ℕ
least_mixed = least_lane_flow * least_parts / whole

abbrev pub most_mixed : ℕ
most_mixed = most_flow * most_parts / whole

-- how many times that flow a volume can be (11,999)
abbrev pub most_mixed_served : ℕ
most_mixed_served = most_volume * flow_unit / least_mixed + 1

-- 23–25, where they are times (2,879,784,000), and 26
abbrev pub most_option : ℕ
most_option = most_time most_mixed_served + most_held

abbrev pub most_permitted : ℕ
most_permitted = most_option + most_added

-- a cell that may be BLANK is a time otherwise
abbrev pub Timely : ℕ → ℕ → Type 0
Timely most x = (x ≡ BLANK → ⊥) → x ≤ most

-- what the pairs and totals lean on of an approach's lines
pub record Bounded (x : List ℕ) : Type 0 where
  pub line16 : line 16 x ≤ most_adjusted
  pub line17 : line 17 x ≤ most_adjusted
  pub line18 : line 18 x ≤ most_adjusted
  pub line26 : Timely most_permitted (line 26 x)
  pub line28 : line 28 x ≤ most_adjusted

-- a pair's totals that are picked: the split total is no larger, and two approaches' 16 and 17 add up to no more
abbrev pub most_picked : ℕ
most_picked = 2 * most_adjusted

-- a right total, and the two picked times added: a right turn with a through and a left, each picked
abbrev pub most_required : ℕ
most_required = 2 * most_picked

-- "required/CL up", in the shortest cycle
abbrev pub most_icu : ℕ
most_icu = most_required / (limits_of Cycle).least + 1
