-- `line_left_lane::flow_a`. No flow gives none; else each product fits, by one law of the room that line 22 takes.
use Rattle.line_bounds.proofs.LeftLane.{FlowARoom, flow_a_room, flow_a_none}
use Rattle.procedure.specs.Lines.{flow_a}
use mathlib.Core.Path.{sym}
use native.Mathlib.Omega.{arith}
use Rattle.line_left_lane.proofs.flow_a.Goals.{Start}
use Rattle.line_left_lane.proofs.flow_a.Goals as goal

room : (s : Start) → FlowARoom s.args.flow.0 s.args.share s.args.equivalent s.args.lanes.0
room s = flow_a_room _ _ _ _ s.requires.0 s.requires.1 s.requires.2 s.requires.3 s.requires.4 s.requires.5

pub returns-then-share-eq0 : goal.returns-then-share-eq0
returns-then-share-eq0 c = rw c.if-share-eq0.true (sym (flow_a_none _ _ _))

pub overflow_mul-carried : goal.overflow_mul-carried
overflow_mul-carried c = rw c.parts_of.ensures (omega (arith, (room (goal.at.overflow_mul-carried c).Start).over))

pub overflow_cast-result-2 : goal.overflow_cast-result-2
unfolding flow_a
overflow_cast-result-2 c = rw c.parts_of.ensures (omega (arith, room (goal.at.overflow_cast-result-2 c).Start))

pub returns : goal.returns
unfolding flow_a
returns c = rw c.parts_of.ensures
