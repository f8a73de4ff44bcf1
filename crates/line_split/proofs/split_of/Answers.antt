-- An approach without volume has the time of those who cross; any other weighs line 27, which a law keeps small.
use native.Mathlib.Omega.{arith}
use mathlib.Core.Path.{◌≡◌}
use borrow.Author.Tests.{eq-eqb}
use Rattle.kinds.specs.declared.Group.TheVariants.{Left, Through}
use Rattle.procedure.specs.Lines.{empty, line28, weighted, nobody_driving, volume}
use Rattle.line_bounds.proofs.Flows.{volumes}
use Rattle.line_bounds.proofs.Times.{F_most, line27_most}
use Rattle.line_split.proofs.Laws.{not_both_none, split_made}
use Rattle.line_split.proofs.split_of.Goals.{After-weigh, After-weigh_nobody-crossing}
use Rattle.line_split.proofs.split_of.Goals as goal

pub overflow_add-x : goal.overflow_add-x
overflow_add-x c =
    let counted = volumes c.args.s c.requires.0 in
    rw c.requires.1 (omega arith)

pub weigh_nobody-crossing-requires : goal.weigh_nobody-crossing-requires
weigh_nobody-crossing-requires c =
    (c.requires.0, rw c.requires.1 (F_most _ _))

-- line 28 where nobody drives
nobody :
    (d : After-weigh_nobody-crossing)
    → d.weigh_nobody-crossing.result.0 ≡ line28 d.args.s d.args.cycle.0
unfolding line28 empty weighted nobody_driving
nobody d =
    let none = rw d.requires.1 at d.if-x-eq0.true in
    let l : volume d.args.s Left ≡ 0 = omega (arith, none) in
    let t : volume d.args.s Through ≡ 0 = omega (arith, none) in
    rw (eq-eqb _ _ l, eq-eqb _ _ t) (rw d.requires.1 at d.weigh_nobody-crossing.ensures)

pub returns-then-x-eq0 : goal.returns-then-x-eq0
returns-then-x-eq0 c = split_made _ _ _ _ c.largest_of-largest.ensures (nobody (goal.at.returns-then-x-eq0 c).After-weigh_nobody-crossing)

pub weigh-requires : goal.weigh-requires
weigh-requires c =
    (c.requires.0, rw c.requires.1 (F_most _ _), omega (arith, c.largest_of-largest.ensures, line27_most c.args.s c.args.cycle.0 c.requires.0 c.requires.2))

-- and where somebody does
somebody :
    (d : After-weigh)
    → d.weigh.result.0 ≡ line28 d.args.s d.args.cycle.0
unfolding line28 weighted empty
somebody d =
    let some = not_both_none _ _ (rw d.requires.1 at d.if-x-eq0.false) in
    rw (some, ← d.largest_of-largest.ensures) (rw d.requires.1 at d.weigh.ensures)

pub returns : goal.returns
returns c = split_made _ _ _ _ c.largest_of-largest.ensures (somebody (goal.at.returns c).After-weigh)
