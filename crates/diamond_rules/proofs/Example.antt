-- The book's example 3 comes out of the definitions: an acceptable record, and every cell of it.
use mathlib.Core.Path.{◌≡◌, refl}
use Rattle.units.specs.Rounding.{up}
use Rattle.line_decay.specs.Decay.{term, turns, faded, decay_number}
use Rattle.line_factors.specs.Factors.{lane_factor, factor_of}
use Rattle.kinds.specs.Kinds.{kind_at}
use Rattle.answers.specs.Answers.{in_turn}
use Rattle.answers.specs.declared.Answer.TheVariants.{Accepted}
use Rattle.entries.specs.Layout.{movement_entry, approach_entry}
use Rattle.entries.specs.Judging.{outside, badly_shared, other_lanes, unserved}
use Rattle.procedure.specs.Approach.{read_movement, read_approach}
use Rattle.procedure.specs.Lines.{a, b, volume, v_st, turning_t, f_t, flow_of, factor, flow, turning_st, s_st, s_sl, G, interference, frequency, F, time, reference}
use Rattle.procedure.specs.Lines.{adjusted_of, weighted_of, weighted, crossed, nobody_driving, adjusted}
use Rattle.procedure.specs.Pairs.{picked, icu_of, ends_passed}
use Rattle.diamond_rules.specs.Record.{west, east, both_answer, cycles_answer, stores_answer, travel_answer}
use Rattle.diamond_rules.specs.Record.{junctions_answer, own_answer, record_size, judged_record}
use Rattle.diamond_rules.specs.Lines.{interchange, side_of, west_side, east_side, below1, stored, fits, entering, off_ramp, isolated, alternate}
use Rattle.diamond_rules.specs.Lines.{combined, overlap, held, leading_alternate, isolated_plan, lagging_allowed, lead_lag_allowed, best_of, sides_of}
use Rattle.diamond_rules.specs.Lines.{plans_of, diamond}
use Rattle.diamond_rules.specs.Example.{example3, cells3}

pub example3_accepted : judged_record example3 ≡ Accepted
unfolding west east judged_record record_size junctions_answer own_answer both_answer cycles_answer stores_answer travel_answer in_turn kind_at
    movement_entry approach_entry outside badly_shared other_lanes unserved
example3_accepted = refl

pub example3_worked : diamond example3 ≡ cells3
unfolding west east up term turns faded decay_number lane_factor factor_of movement_entry approach_entry read_movement read_approach a b volume v_st turning_t f_t flow_of
    factor flow turning_st s_st s_sl G interference frequency F time reference adjusted_of weighted_of weighted crossed nobody_driving adjusted
    picked icu_of ends_passed interchange side_of west_side east_side below1 stored fits entering off_ramp isolated alternate combined
    overlap held leading_alternate isolated_plan lagging_allowed lead_lag_allowed best_of sides_of plans_of diamond
example3_worked = refl
