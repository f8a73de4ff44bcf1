-- The paper's example: the listing of K1, then K1 with the cycle as 29, in a file of today and in one of before. The definitions compute it.
use mathlib.Core.Path.{◌≡◌, refl}
use mathlib.Core.List.{List, [], ◌∷◌, ◌++◌}
use Prim.Native.Nat.{ℕ}
use lib.ListN.{set}
use Rattle.layout.specs.Entries.{cycle_entry}
use Rattle.units.specs.Rounding.{up}
use Rattle.line_decay.specs.Decay.{term, turns, faded, decay_number}
use Rattle.line_factors.specs.Factors.{lane_factor, factor_of}
use Rattle.entries.specs.Layout.{movement_entry, approach_entry}
use Rattle.procedure.specs.Approach.{read_movement, read_approach}
use Rattle.procedure.specs.Lines.{a, b, volume, v_st, turning_t, f_t, flow_of, factor, flow, turning_st, s_st, s_sl, G, interference, frequency, F, time, reference}
use Rattle.procedure.specs.Lines.{adjusted_of, weighted_of, weighted, crossed, nobody_driving, adjusted, heaviest, v_ll, q, single, left_share}
use Rattle.procedure.specs.Lines.{equivalent, E, flow_a, s_a}
use Rattle.procedure.specs.Lines.{option_a_of, left_a, option_a, allowed_a, allowed_b, empty, line23, s_b, through_b, option_b, line24, lesser, line25, line26}
use Rattle.procedure.specs.Lines.{line27, line28, first_lines, later_lines, lines, lines_for}
use Rattle.procedure.specs.Pairs.{protected, permitted, split, picked, pair, pair_for, through_time, left_time, right_total, icu_of, ends_passed}
use Rattle.procedure.specs.Sheet.{lines_at, pair_at, right_at, last_of, last_at, sheet_for}
use Rattle.answers.specs.Answers.{in_turn}
use Rattle.kinds.specs.Kinds.{kind_at}
use Rattle.entries.specs.Judging.{size_answer, outside, badly_shared, other_lanes, unserved, judged_for}
use Rattle.procedure.specs.Junctions.{K1, side, four}
use Rattle.lists.specs.Lists.{table}
use Rattle.study_numbers.specs.Numbers.{bytes_of, packed}
use Rattle.study_format.specs.Fields.{starts_with}
use Rattle.study_format.specs.Format.{judgement, file_of}
use Rattle.study_before.specs.Before.{cycle_before, widened_at, widened}
use Rattle.study.specs.Study.{icut, icus, format_of, block_entries}
use Rattle.text.specs.Text.{ascii, digits, decimal, number_then}
use Rattle.study_lines.specs.Lines.{rated_line, refused_line}
use Rattle.study_listing.specs.Listing.{site_of, site_lines, listing}

-- K1 as its 81 entries were
abbrev movement : ℕ → ℕ → List ℕ
movement lanes volume = lanes ∷ volume ∷ 1_900 ∷ 4_000 ∷ 4_000 ∷ []

abbrev K1_before : List ℕ
K1_before = four (movement 1 100 ++ movement 1 400 ++ movement 0 0) ++ four (side 0) ++ (120 ∷ [])

pub example :
    (listing (file_of icut (K1 ++ set K1 cycle_entry 29)) ≡ ascii "1 666 C PP\n2 R3 92\n")
    × (listing (file_of icus (K1_before ++ set K1_before cycle_before 29)) ≡ ascii "1 666 C PP\n2 R3 92\n")
unfolding ascii kind_at up term turns faded decay_number lane_factor factor_of movement_entry approach_entry read_movement read_approach a b volume
    v_st turning_t f_t flow_of factor flow turning_st s_st s_sl G interference frequency F time reference adjusted_of weighted_of weighted crossed
    nobody_driving adjusted heaviest v_ll q single left_share equivalent E flow_a s_a option_a_of left_a option_a allowed_a allowed_b empty line23
    s_b through_b option_b line24 lesser line25 line26 line27 line28 first_lines later_lines lines lines_for protected permitted split picked pair
    pair_for through_time left_time right_total icu_of ends_passed lines_at pair_at right_at last_of last_at sheet_for in_turn size_answer outside badly_shared
    other_lanes unserved judged_for bytes_of table packed starts_with judgement file_of digits decimal number_then rated_line refused_line site_of
    site_lines listing format_of block_entries widened_at widened
example = (refl, refl)
