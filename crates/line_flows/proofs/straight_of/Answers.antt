-- `line_flows::straight_of`. Without folded lefts line 8 is line 6, by a law; else the formula, within its bounds.
use Rattle.line_bounds.proofs.Flows.{volumes, flow_ready, straight_between, straight_alike}
use Rattle.procedure.specs.Lines.{a, b, v_st, factor, s_st}
use Rattle.kinds.specs.declared.Group.TheVariants.{Through}
use native.Mathlib.Omega.{arith}
use mathlib.Core.Path.{◌≡◌, sym, ◌∙◌}
use Rattle.line_flows.proofs.straight_of.Goals as goal

pub returns-then-v-eq0 : goal.returns-then-v-eq0
returns-then-v-eq0 c =
    let none : b c.args.s ≡ 0 = rw c.requires.1 at c.if-v-eq0.true in
    c.requires.2 ∙ sym (straight_alike c.args.s none)

pub straight_turning_of-rights-requires : goal.straight_turning_of-rights-requires
straight_turning_of-rights-requires c =
    let v = volumes c.args.s c.requires.0 in
    rw c.requires.1 (omega arith, v.foldedright)

pub group_flow-requires : goal.group_flow-requires
group_flow-requires c =
    let most = (straight_between (v_st c.args.s) (a c.args.s) (volumes c.args.s c.requires.0).foldedright).most in
    flow_ready _ c.requires.0 Through _ (rw (c.straight_turning_of-rights.ensures, c.requires.1) most)

pub returns : goal.returns
unfolding factor s_st
returns c = rw (c.group_flow.ensures, c.straight_turning_of-rights.ensures, c.requires.1)
