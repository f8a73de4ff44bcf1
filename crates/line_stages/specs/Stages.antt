-- Working definitions: what each stage of the lines hands on, the lines of `procedure` put into the stages' structs, each in its unit.
use Rattle.std.specs.Prelude.{ℕ}
use Rattle.units.specs.declared.Ms.{Ms}
use Rattle.units.specs.declared.Vph.{Vph}
use Rattle.units.specs.declared.Flow.{Flow}
use Rattle.kinds.specs.declared.Group.TheVariants.{Left, Through, Right}
use Rattle.layout.specs.declared.Worksheet.{Worksheet}
use Rattle.layout.specs.declared.Worksheet.TheVariants.{Junction, Point}
use Rattle.procedure.specs.declared.Approach.{Approach}
use Rattle.procedure.specs.Lines.{a, b, volume, v_st, f_t, flow, s_st, s_sl, interference, F, reference, adjusted, v_ll, q, left_share, allowed_a, allowed_b, E, s_a}
use Rattle.procedure.specs.Lines.{line23, line24, line25, line26, line27, line28}
use Rattle.line_stages.specs.declared.Volumes.{Volumes}
use Rattle.line_stages.specs.declared.Flows.{Flows}
use Rattle.line_stages.specs.declared.Walking.{Walking}
use Rattle.line_stages.specs.declared.Times.{Times}
use Rattle.line_stages.specs.declared.First.{First}
use Rattle.line_stages.specs.declared.Meeting.{Meeting}
use Rattle.line_stages.specs.declared.LeftLane.{LeftLane}
use Rattle.line_stages.specs.declared.Permitted.{Permitted}
use Rattle.line_stages.specs.declared.Split.{Split}
use Rattle.line_stages.specs.declared.Later.{Later}
use Rattle.line_stages.specs.declared.Lines.{Lines}

abbrev pub ms : ℕ → Ms
ms x = record { 0 = x }

abbrev pub vph : ℕ → Vph
vph x = record { 0 = x }

abbrev pub carried : ℕ → Flow
carried x = record { 0 = x }

-- 1–3, with the folded volumes and the through volume without folded lefts
abbrev pub volumes_of : Approach → Volumes
volumes_of s =
    record {
      left = vph (volume s Left);
      through = vph (volume s Through);
      right = vph (volume s Right);
      foldedright = vph (a s);
      foldedleft = vph (b s);
      straight = vph (v_st s);
    }

-- 4–9
abbrev pub flows_of : Approach → Flows
flows_of s =
    record {
      turning = f_t s;
      left = carried (flow s Left);
      through = carried (flow s Through);
      right = carried (flow s Right);
      straight = carried (s_st s);
      lefts = carried (s_sl s);
    }

-- 10–12
abbrev pub walking_of : Approach → ℕ → Walking
walking_of s CL = record { right = ms (interference s Right CL); through = ms (interference s Through CL); frequency = F s CL }

-- 13–18
abbrev pub times_of : Approach → ℕ → Times
times_of s CL =
    record {
      left = ms (reference s Left CL);
      through = ms (reference s Through CL);
      right = ms (reference s Right CL);
      adjustedleft = ms (adjusted s Left CL);
      adjustedthrough = ms (adjusted s Through CL);
      adjustedright = ms (adjusted s Right CL);
    }

-- 1–18, which look at the approach alone
abbrev pub first_of : Approach → ℕ → First
first_of s CL = record { volumes = volumes_of s; flows = flows_of s; walking = walking_of s CL; times = times_of s CL }

-- what the oncoming approach does to this one
abbrev pub meeting_of : Approach → Approach → Meeting
meeting_of s o = record { share = left_share o; alloweda = allowed_a s o; allowedb = allowed_b o }

-- 19–22
abbrev pub left_lane_of : Approach → Approach → ℕ → LeftLane
left_lane_of s o CL = record { heaviest = vph (v_ll s); share = q s; equivalent = E s o CL; flow = carried (s_a s o CL) }

-- 23–26
abbrev pub permitted_of : Approach → Approach → ℕ → Permitted
permitted_of s o CL =
    record { a = ms (line23 s o CL); b = ms (line24 s o CL); lesser = ms (line25 s o CL); weighted = ms (line26 s o CL) }

-- 27, 28
abbrev pub split_of : Approach → ℕ → Split
split_of s CL = record { largest = ms (line27 s CL); weighted = ms (line28 s CL) }

-- 19–28
abbrev pub later_of : Approach → Approach → ℕ → Later
later_of s o CL = record { lane = left_lane_of s o CL; permitted = permitted_of s o CL; split = split_of s CL }

-- a single point's sheet has none of them
abbrev pub no_later : Later
no_later =
    record {
      lane = record { heaviest = vph 0; share = 0; equivalent = 0; flow = carried 0 };
      permitted = record { a = ms 0; b = ms 0; lesser = ms 0; weighted = ms 0 };
      split = record { largest = ms 0; weighted = ms 0 };
    }

abbrev pub later_for : Worksheet → Approach → Approach → ℕ → Later
later_for Junction s o CL = later_of s o CL
later_for Point s o CL = no_later

abbrev pub lines_of : Worksheet → Approach → Approach → ℕ → Lines
lines_of k s o CL = record { first = first_of s CL; later = later_for k s o CL }
