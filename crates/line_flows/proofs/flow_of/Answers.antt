-- The products stay below 64 bits; without lanes it is 0, else the definition as it stands.
use native.Mathlib.Omega.{arith}
use borrow.Author.Tests.{eq-eqb, ne_eqb}
use Rattle.procedure.specs.Lines.{flow_of}
use Rattle.line_bounds.proofs.Flows.{FlowRoom, flow_room}
use Rattle.line_flows.proofs.flow_of.Goals.{After-factor_of-share}
use Rattle.line_flows.proofs.flow_of.Goals as goal

-- the products on the way to the flow
room :
    (c : After-factor_of-share)
    → FlowRoom c.args.ideal.0 c.args.lanes.0 c.factor_of-share.result
    c.args.turning
room c =
    let p = c.requires in
    flow_room _ _ _ _ p.0 p.1 c.factor_of-share.ensures.1 p.3

pub returns-then-lanes-eq0 : goal.returns-then-lanes-eq0
unfolding flow_of
returns-then-lanes-eq0 c = rw (eq-eqb _ _ c.if-lanes-eq0.true)

pub overflow_mul-scaled : goal.overflow_mul-scaled
overflow_mul-scaled c = omega (arith, room (goal.at.overflow_mul-scaled c).After-factor_of-share)

pub overflow_mul-scaled-2 : goal.overflow_mul-scaled-2
overflow_mul-scaled-2 c = omega (arith, room (goal.at.overflow_mul-scaled-2 c).After-factor_of-share)

pub overflow_mul-scaled-3 : goal.overflow_mul-scaled-3
overflow_mul-scaled-3 c = omega (arith, room (goal.at.overflow_mul-scaled-3 c).After-factor_of-share)

pub overflow_cast-result : goal.overflow_cast-result
overflow_cast-result c = omega (arith, room (goal.at.overflow_cast-result c).After-factor_of-share)

pub returns : goal.returns
unfolding flow_of
returns c = rw (ne_eqb _ _ c.if-lanes-eq0.false, ← c.factor_of-share.ensures.0)
