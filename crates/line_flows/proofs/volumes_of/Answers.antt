-- What is folded is chosen, then added; the sums have room by the bounds of a fair approach's volumes.
use mathlib.Core.Path.{◌≡◌}
use native.Mathlib.Omega.{arith}
use borrow.Author.Tests.{eq-eqb, ne_eqb}
use Rattle.kinds.specs.declared.Group.TheVariants.{Left, Right}
use Rattle.procedure.specs.Lines.{a, b, volume, v_st}
use Rattle.line_bounds.proofs.Flows.{parted, volumes}
use Rattle.line_flows.proofs.volumes_of.Goals.{Joined-laneless, Joined-laneless-2, Joined-shared, Joined-shared-2}
use Rattle.line_flows.proofs.volumes_of.Goals.{then-laneless, else-laneless, then-laneless-2, else-laneless-2}
use Rattle.line_flows.proofs.volumes_of.Goals.{then-shared, else-shared, then-shared-2, else-shared-2}
use Rattle.line_flows.proofs.volumes_of.Goals as goal

left : (d : Joined-shared) → d.if-shared.foldedleft.0 ≡ b d.args.s
unfolding b
left d =
    elim d.if-shared.branch [
      | then-shared w ↦ rw (w.foldedleft-is, eq-eqb _ _ w.if-shared.true)
      | else-shared w ↦ rw (w.foldedleft-is, ne_eqb _ _ w.if-shared.false)
    ]

right : (d : Joined-laneless) → d.if-laneless.foldedright.0 ≡ a d.args.s
unfolding a
right d =
    elim d.if-laneless.branch [
      | then-laneless w ↦ rw (w.foldedright-is, eq-eqb _ _ w.if-laneless.true)
      | else-laneless w ↦ rw (w.foldedright-is, ne_eqb _ _ w.if-laneless.false)
    ]

own_left : (d : Joined-shared-2) → d.if-shared-2.result.0 ≡ volume d.args.s Left
unfolding volume
own_left d =
    elim d.if-shared-2.branch [
      | then-shared-2 w ↦ rw (w.result-is, eq-eqb _ _ w.if-shared-2.true)
      | else-shared-2 w ↦ rw (w.result-is, ne_eqb _ _ w.if-shared-2.false)
    ]

own_right : (d : Joined-laneless-2) → d.if-laneless-2.result.0 ≡ volume d.args.s Right
unfolding volume
own_right d =
    elim d.if-laneless-2.branch [
      | then-laneless-2 w ↦ rw (w.result-is, eq-eqb _ _ w.if-laneless-2.true)
      | else-laneless-2 w ↦ rw (w.result-is, ne_eqb _ _ w.if-laneless-2.false)
    ]

pub overflow_add-through : goal.overflow_add-through
overflow_add-through c =
    omega (arith, left (goal.at.overflow_add-through c).Joined-shared, (parted c.args.s).through, (volumes c.args.s c.requires).through)

pub overflow_add-through-2 : goal.overflow_add-through-2
overflow_add-through-2 c =
    let at = goal.at.overflow_add-through-2 c in
    omega (arith, left at.Joined-shared, right at.Joined-laneless, (parted c.args.s).through, (volumes c.args.s c.requires).through)

pub returns : goal.returns
unfolding v_st
returns c =
    let at = goal.at.returns c in
    rw (own_left at.Joined-shared-2, own_right at.Joined-laneless-2, left at.Joined-shared, right at.Joined-laneless, ← (parted c.args.s).through)
