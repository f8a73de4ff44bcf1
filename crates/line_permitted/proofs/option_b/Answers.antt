-- Not allowed, it is BLANK; else the larger of its halves, whose needs are laws of the approach.
use Rattle.kinds.specs.declared.Group.TheVariants.{Through}
use Rattle.procedure.specs.Lines.{option_b}
use Rattle.line_bounds.proofs.Times.{straight_passes, lefts_pass, interference_most}
use Rattle.line_bounds.proofs.Permitted.{s_b_most}
use mathlib.Core.Path.{◌≡◌, refl, ap}
use Rattle.std.specs.Prelude.{Some}
use Rattle.line_permitted.proofs.Laws.{time_is}
use Rattle.line_bounds.proofs.Order.{larger}
use Rattle.line_permitted.proofs.option_b.Goals as goal

pub returns-then-not-allowed : goal.returns-then-not-allowed
returns-then-not-allowed c = rw c.if-not-allowed.true

pub flow_b-requires : goal.flow_b-requires
flow_b-requires c = rw c.requires.1 (c.requires.0, refl)

pub through_b-through-requires : goal.through_b-through-requires
through_b-through-requires c =
    rw (c.flow_b.ensures, c.requires.1) (straight_passes _ _ c.requires.0 c.requires.2, s_b_most _ c.requires.0, interference_most _ _ Through)

pub left_b-requires : goal.left_b-requires
left_b-requires c =
    rw c.requires.1 (lefts_pass _ _ c.requires.0 c.requires.2)

pub returns : goal.returns
unfolding option_b
returns c =
    let time : c.max.result.0 ≡ option_b c.args.s c.args.cycle.0 =
    rw (larger c.through_b-through.result c.left_b.result c.max.ensures, c.left_b.ensures, c.through_b-through.ensures, c.flow_b.ensures, c.requires.1) refl in
    rw c.if-not-allowed.false (ap Some (time_is time))
