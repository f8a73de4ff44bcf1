-- A junction's sheet has the most of everything, and a single point's the least; no kind is without a total or a number beside it.
use Prim.Native.Nat.{◌≤◌, ◌<◌}
use lib.Dec.{lit≤, lit<}
use Rattle.layout.specs.declared.Worksheet.{Worksheet}
use Rattle.layout.specs.declared.Worksheet.TheVariants.{Junction, Point}
use Rattle.layout.specs.Sheet.{line_count, pair_cells, sheet_count, beside_numbers}

pub record Few (k : Worksheet) : Type 0 where
  pub least : line_count Point ≤ line_count k
  pub lines : line_count k ≤ line_count Junction
  pub some_pair : 0 < pair_cells k
  pub pair : pair_cells k ≤ pair_cells Junction
  pub cells : sheet_count k ≤ sheet_count Junction
  pub some_beside : 0 < beside_numbers k
  pub beside : beside_numbers k ≤ beside_numbers Junction

pub few : (k : Worksheet) → Few k
few Junction =
    record { least = lit≤ tt; lines = lit≤ tt; some_pair = lit< tt; pair = lit≤ tt; cells = lit≤ tt; some_beside = lit< tt; beside = lit≤ tt }
few Point = record { least = lit≤ tt; lines = lit≤ tt; some_pair = lit< tt; pair = lit≤ tt; cells = lit≤ tt; some_beside = lit< tt; beside = lit≤ tt }
