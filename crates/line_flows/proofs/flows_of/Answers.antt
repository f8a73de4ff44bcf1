-- Each of lines 4–9 comes from its own function; what they ask for are laws of a fair approach.
use Rattle.procedure.specs.Lines.{f_t, factor, flow}
use Rattle.kinds.specs.declared.Group.TheVariants.{Left, Through, Right}
use lib.Dec.{lit≤}
use mathlib.Core.Path.{◌≡◌}
use Rattle.line_bounds.proofs.Flows.{volumes, flow_ready, factor_between}
use borrow.Author.Rules.{rules}
use Rattle.line_flows.proofs.flows_of.Goals.{After-group_flow-through, After-turning_of-turns}
use Rattle.line_flows.proofs.flows_of.Goals as goal

turning : (d : After-turning_of-turns) → d.turning_of-turns.result ≡ f_t d.args.s
unfolding f_t
turning d = rw d.requires.1 at d.turning_of-turns.ensures

turning-2 : (d : After-group_flow-through) → d.turning_of-turns.result ≡ f_t d.args.s
unfolding f_t
turning-2 d = rw d.requires.1 at d.turning_of-turns.ensures

through : (d : After-group_flow-through) → d.group_flow-through.result.0 ≡ flow d.args.s Through
unfolding factor flow
through d = rw (d.group_flow-through.ensures, turning-2 d)

pub turning_of-turns-requires : goal.turning_of-turns-requires
turning_of-turns-requires c =
    let v = volumes c.args.s c.requires.0 in
    rw c.requires.1 (search rules)

pub group_flow-left-requires : goal.group_flow-left-requires
group_flow-left-requires c = flow_ready _ c.requires.0 Left _ (lit≤ tt)

pub group_flow-through-requires : goal.group_flow-through-requires
group_flow-through-requires c =
    flow_ready _ c.requires.0 Through _ (rw (turning (goal.at.group_flow-through-requires c).After-turning_of-turns) (factor_between c.args.s c.requires.0 Through).most)

pub group_flow-requires : goal.group_flow-requires
group_flow-requires c = flow_ready _ c.requires.0 Right _ (lit≤ tt)

pub straight_of-requires : goal.straight_of-requires
straight_of-requires c =
    (c.requires.0, c.requires.1, through (goal.at.straight_of-requires c).After-group_flow-through)

pub lefts_of-requires : goal.lefts_of-requires
unfolding factor flow
lefts_of-requires c = (c.requires.0, c.group_flow-left.ensures)

pub returns : goal.returns
unfolding factor flow
returns c =
    rw (
      turning (goal.at.returns c).After-turning_of-turns,
      c.group_flow-left.ensures,
      through (goal.at.returns c).After-group_flow-through,
      c.group_flow.ensures,
      c.straight_of.ensures,
      c.lefts_of.ensures,
    )
