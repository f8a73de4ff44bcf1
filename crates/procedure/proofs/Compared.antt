-- K1 to K10: every number that the paper gives comes out of the definitions; so do those of lane factors that were measured, every cell
-- of the book's example 4, and the rating of the entries that a single point begins with.
use mathlib.Core.Path.{◌≡◌, refl}
use Rattle.units.specs.Rounding.{up}
use Rattle.lists.specs.Lists.{table}
use Rattle.kinds.specs.Kinds.{kind_at}
use Rattle.point_start.specs.Start.{start_entries}
use Rattle.line_decay.specs.Decay.{term, turns, faded, decay_number}
use Rattle.line_factors.specs.Factors.{lane_factor, factor_of}
use Rattle.entries.specs.Layout.{movement_entry, approach_entry}
use Rattle.procedure.specs.Approach.{read_movement, read_approach}
use Rattle.procedure.specs.Lines.{a, b, volume, v_st, turning_t, f_t, flow_of, factor, flow, turning_st, s_st, s_sl}
use Rattle.procedure.specs.Lines.{G, interference, frequency, F, time, reference}
use Rattle.procedure.specs.Lines.{adjusted_of, weighted_of, weighted, crossed, nobody_driving, adjusted, heaviest, v_ll, q, single, left_share}
use Rattle.procedure.specs.Lines.{equivalent, E, flow_a, s_a}
use Rattle.procedure.specs.Lines.{option_a_of, left_a, option_a, allowed_a, allowed_b, empty, line23, s_b, through_b, option_b, line24, lesser, line25, line26}
use Rattle.procedure.specs.Lines.{line27, line28, first_lines, later_lines, lines, lines_for}
use Rattle.procedure.specs.Pairs.{protected, permitted, split, picked, pair, pair_for, through_time, left_time, right_total, icu_of, ends_passed}
use Rattle.procedure.specs.Sheet.{lines_at, pair_at, right_at, last_of, last_at, sheet_for}
use Rattle.procedure.specs.Junctions.{worked_out, given, measured_out, measured_given}
use Rattle.procedure.specs.Points.{cells4, given4, start_rated, start_given}

pub compared : (worked_out ≡ given) × (measured_out ≡ measured_given) × (cells4 ≡ given4) × (start_rated ≡ start_given)
unfolding up table kind_at start_entries term turns faded decay_number lane_factor factor_of movement_entry approach_entry read_movement read_approach a b volume v_st
    turning_t f_t flow_of factor flow turning_st s_st s_sl G interference frequency F time reference adjusted_of weighted_of weighted crossed nobody_driving adjusted
    heaviest v_ll q single left_share equivalent E flow_a s_a option_a_of left_a option_a allowed_a allowed_b empty line23 s_b through_b option_b line24 lesser line25
    line26 line27 line28 first_lines later_lines lines lines_for protected permitted split picked pair pair_for through_time left_time right_total icu_of ends_passed
    lines_at pair_at right_at last_of last_at sheet_for
compared = (refl, refl, refl, refl)
