-- Not allowed, it is BLANK; else the T and the L value by their functions, whose needs are laws of the approach.
use mathlib.Core.Bool.{true, false}
use mathlib.Core.Path.{◌≡◌, refl, ap}
use borrow.Author.Tests.{not-true, not-false}
use Rattle.kinds.specs.declared.Group.TheVariants.{Left, Through}
use Rattle.procedure.specs.Lines.{allowed_a, option_a, left_a}
use Rattle.line_bounds.proofs.Flows.{group_serving}
use Rattle.line_bounds.proofs.Times.{group_passes, interference_most}
use Rattle.line_bounds.proofs.LeftLane.{carried, share_within}
use Rattle.std.specs.Prelude.{Some}
use Rattle.line_permitted.proofs.Laws.{time_is}
use Rattle.line_bounds.proofs.Order.{larger}
use Rattle.line_permitted.proofs.option_a.Goals as goal

pub returns-then-not-m : goal.returns-then-not-m
returns-then-not-m c =
    let refused : allowed_a c.args.s c.args.o ≡ false = rw c.requires.2 at (not-true c.args.m.alloweda c.if-not-m.true) in
    rw refused

pub option_a_of-through-requires : goal.option_a_of-through-requires
option_a_of-through-requires c =
    let a = c.args in
    let lane = carried a.s a.o a.cycle.0 c.requires.0 c.requires.4 in
    rw (c.requires.1, c.requires.3) record {
      lane_le_most_volume = (lane.heaviest_most, lane.flow_serves, lane.flow_least, lane.flow_most);
      passes = (group_passes _ _ c.requires.0 c.requires.4 Through, interference_most _ _ Through);
    }

pub left_option_a-left-requires : goal.left_option_a-left-requires
left_option_a-left-requires c =
    let passes = group_passes c.args.s c.args.cycle.0 c.requires.0 c.requires.4 Left in
    let served = group_serving c.args.s c.requires.0 Left in
    rw (c.requires.1, c.requires.2) (passes, c.requires.0.served Left, served.least, share_within c.args.o, c.requires.4)

pub returns : goal.returns
unfolding option_a left_a
returns c =
    let allowed : allowed_a c.args.s c.args.o ≡ true = rw c.requires.2 at (not-false c.args.m.alloweda c.if-not-m.false) in
    let time : c.max.result.0 ≡ option_a c.args.s c.args.o c.args.cycle.0 =
    rw (larger c.option_a_of-through.result c.left_option_a-left.result c.max.ensures, c.left_option_a-left.ensures, c.option_a_of-through.ensures, c.requires.1, c.requires.2, c.requires.3) refl in
    rw allowed (ap Some (time_is time))
