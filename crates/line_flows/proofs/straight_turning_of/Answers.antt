use mathlib.Core.Path.{◌≡◌}
use Rattle.line_bounds.proofs.Flows.{straight_none}
use Rattle.procedure.specs.Lines.{turning_st}
use borrow.Author.Tests.{ne_eqb}
use native.Mathlib.Omega.{arith}
use Rattle.line_flows.proofs.straight_turning_of.Goals as goal

pub returns-then-right-eq0 : goal.returns-then-right-eq0
returns-then-right-eq0 c = rw (c.if-right-eq0.true, straight_none)

pub returns : goal.returns
unfolding turning_st
returns c =
    let z : c.args.straight.0 ≡ 0 → ⊥ = λ none. omega (arith, c.if-right-eq0.false) in
    rw (ne_eqb _ _ z)
