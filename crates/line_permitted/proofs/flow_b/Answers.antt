-- `line_permitted::flow_b`. Not shared, it is line 6; shared, there is a through lane to divide by, and the product fits.
use mir.Facts.{Fits-le, Fits-lit}
use native.Mathlib.Omega.{arith}
use borrow.Author.Tests.{eq-eqb, ne_eqb}
use native.Mathlib.Nat.{mul-le-mul}
use Prim.Native.Nat.{◌<◌}
use Rattle.kinds.specs.declared.Group.TheVariants.{Through}
use Rattle.kinds.specs.declared.Kind.TheVariants.{Lanes}
use Rattle.kinds.specs.Working.{most_of}
use Rattle.procedure.specs.Approach.{n}
use Rattle.procedure.specs.Lines.{s_b}
use Rattle.line_bounds.specs.Bounds.{most_flow}
use Rattle.line_bounds.proofs.Flows.{group_serving}
use Rattle.line_permitted.proofs.flow_b.Goals.{Else-s-ne1}
use Rattle.line_permitted.proofs.flow_b.Goals as goal

some : (d : Else-s-ne1) → 0 < n d.args.s Through
some d = d.requires.0.shares (eq-eqb _ _ d.if-s-ne1.false)

pub returns-then-s-ne1 : goal.returns-then-s-ne1
unfolding s_b
returns-then-s-ne1 c = rw (ne_eqb _ _ c.if-s-ne1.true, c.requires.1)

pub overflow_sub-result : goal.overflow_sub-result
overflow_sub-result c = omega (arith, some (goal.at.overflow_sub-result c).Else-s-ne1)

pub overflow_mul-result : goal.overflow_mul-result
overflow_mul-result c =
    let served = group_serving c.args.s c.requires.0 Through in
    rw c.requires.1
    (Fits-le (mul-le-mul {n₂ = most_flow} {m₂ = most_of Lanes} served.most (omega (arith, (c.requires.0.group Through).lanes.most))) (Fits-lit tt))

pub nonzero_div-result : goal.nonzero_div-result
nonzero_div-result c = some (goal.at.nonzero_div-result c).Else-s-ne1

pub returns : goal.returns
unfolding s_b
returns c = rw (eq-eqb _ _ c.if-s-ne1.false, c.requires.1)
