-- K9: line 23's 117,804 is 59 lefts in a lane whose own E is 300,000 and own sA 60.1 vehicles per hour.
use mathlib.Core.Path.{◌≡◌, refl}
use mathlib.Core.List.{[], ◌∷◌}
use lib.ListN.{take}
use Rattle.units.specs.Rounding.{up}
use Rattle.line_factors.specs.Factors.{lane_factor, factor_of}
use Rattle.entries.specs.Layout.{movement_entry, approach_entry}
use Rattle.procedure.specs.Approach.{read_movement, read_approach}
use Rattle.procedure.specs.Lines.{volume, flow_of, factor, flow, single, left_share, equivalent, flow_a, left_a, first_lines, lines, lines_for}
use Rattle.procedure.specs.Sheet.{lines_at, sheet_for}
use Rattle.layout.specs.declared.Worksheet.TheVariants.{Junction}
use Rattle.procedure.specs.Junctions.{K9}
use Rattle.sheet_beside.specs.Beside.{own_lane, lane_for, added, beside_at, beside_of, beside}

pub own_lane_of_K9 : take 5 (beside Junction K9) ≡ (59 ∷ 300_000 ∷ 601 ∷ 0 ∷ 0 ∷ [])
unfolding beside_of beside_at lane_for own_lane added up lane_factor factor_of movement_entry approach_entry read_movement read_approach volume flow_of factor flow single
    left_share equivalent flow_a left_a first_lines lines lines_for lines_at sheet_for
own_lane_of_K9 = refl
