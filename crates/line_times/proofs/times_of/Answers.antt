-- Each reference time is the part's time of its group's volume, flow and interference; each adjusted time follows from it.
use Rattle.kinds.specs.declared.Group.TheVariants.{Left, Through, Right}
use Rattle.procedure.specs.Lines.{interference, reference, weighted, nobody_driving, adjusted}
use Rattle.line_bounds.proofs.Times.{group_passes, interference_most, F_most, reference_most}
use native.Mathlib.Omega.{arith}
use mathlib.Core.Path.{◌≡◌}
use Rattle.line_times.proofs.times_of.Goals.{After-part_time-left, After-part_time-right, After-part_time-through}
use Rattle.line_times.proofs.times_of.Goals as goal

left : (d : After-part_time-left) → d.part_time-left.result.0 ≡ reference d.args.s Left d.args.cycle.0
unfolding reference interference
left d =
    rw (d.requires.1, d.requires.2) at d.part_time-left.ensures

through : (d : After-part_time-through) → d.part_time-through.result.0 ≡ reference d.args.s Through d.args.cycle.0
unfolding reference
through d =
    rw (d.requires.1, d.requires.2, d.requires.3) at d.part_time-through.ensures

right : (d : After-part_time-right)
    → d.part_time-right.result.0 ≡ reference d.args.s Right d.args.cycle.0
unfolding reference
right d =
    rw (d.requires.1, d.requires.2, d.requires.3) at d.part_time-right.ensures

pub part_time-left-requires : goal.part_time-left-requires
part_time-left-requires c = rw (c.requires.1, c.requires.2) (group_passes _ _ c.requires.0 c.requires.4 Left, omega arith)

pub part_time-through-requires : goal.part_time-through-requires
part_time-through-requires c =
    rw (c.requires.1, c.requires.2, c.requires.3) (group_passes _ _ c.requires.0 c.requires.4 Through, interference_most _ _ Through)

pub part_time-right-requires : goal.part_time-right-requires
part_time-right-requires c =
    rw (c.requires.1, c.requires.2, c.requires.3) (group_passes _ _ c.requires.0 c.requires.4 Right, interference_most _ _ Right)

pub adjusted_time-requires : goal.adjusted_time-requires
adjusted_time-requires c =
    let fair = c.requires.0.group Left in
    (fair.lost, fair.green, rw (left (goal.at.adjusted_time-requires c).After-part_time-left) (reference_most _ _ c.requires.0 c.requires.4 Left))

pub weighted_time-requires : goal.weighted_time-requires
weighted_time-requires c =
    (c.requires.0, rw c.requires.3 (F_most _ _), rw (through (goal.at.weighted_time-requires c).After-part_time-through) (reference_most _ _ c.requires.0 c.requires.4 Through))

pub adjusted_time-requires-2 : goal.adjusted_time-requires-2
adjusted_time-requires-2 c =
    let fair = c.requires.0.group Right in
    (fair.lost, fair.green, rw (right (goal.at.adjusted_time-requires-2 c).After-part_time-right) (reference_most _ _ c.requires.0 c.requires.4 Right))

pub returns : goal.returns
unfolding adjusted weighted nobody_driving
returns c =
    rw (
      c.adjusted_time-2.ensures,
      c.weighted_time.ensures,
      c.adjusted_time.ensures,
      right (goal.at.returns c).After-part_time-right,
      through (goal.at.returns c).After-part_time-through,
      left (goal.at.returns c).After-part_time-left,
      c.requires.1,
      c.requires.3,
    )
