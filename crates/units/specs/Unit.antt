-- The units that numbers without a type of their own are counted in.
use Rattle.std.specs.Prelude.{ℕ, ◌^◌}

-- Request Five: "Lines 5–9 and 22 become tenths of a vehicle per hour, still rounded down": with how many decimals a flow is known
abbrev pub flow_decimals : ℕ
flow_decimals = 1

-- and so of how many parts of a vehicle per hour it is counted. Entries stay whole: a volume, and the ideal flow of a lane.
abbrev pub flow_unit : ℕ
flow_unit = 10 ^ flow_decimals

-- "factors and shares ten-thousandths"
abbrev pub whole : ℕ
whole = 10_000
