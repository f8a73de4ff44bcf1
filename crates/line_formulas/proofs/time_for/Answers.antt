-- `line_formulas::time_for`. The product fits, and so does the quotient, by the bounds of a volume that is served.
use Rattle.units.specs.Unit.{flow_unit}
use Rattle.kinds.specs.declared.Kind.TheVariants.{Cycle}
use Rattle.kinds.specs.Working.{most_of}
use Rattle.line_bounds.specs.Bounds.{most_volume, most_time, most_mixed_served}
use Rattle.line_bounds.proofs.Times.{volume_room, time_at_most}
use Rattle.procedure.specs.Lines.{time}
use native.Mathlib.Omega.{arith}
use Prim.Native.Nat.{◌*◌, ◌≤◌}
use Rattle.line_formulas.proofs.time_for.Goals.{Start}
use Rattle.line_formulas.proofs.time_for.Goals as goal

room : (s : Start) → 1000 * flow_unit * s.args.volume.0 * s.args.cycle.0 ≤ 1000 * flow_unit * most_volume * most_of Cycle
room s = volume_room s.args.volume.0 s.args.cycle.0 s.requires.0 s.requires.1

most : (s : Start) → time s.args.volume.0 s.args.cycle.0 s.args.flow.0 ≤ most_time most_mixed_served
most s = time_at_most most_mixed_served s.args.volume.0 s.args.cycle.0 s.args.flow.0 s.requires.1 s.requires.2

pub overflow_mul-volume-2 : goal.overflow_mul-volume-2
overflow_mul-volume-2 c = omega (arith, room (goal.at.overflow_mul-volume-2 c).Start)

pub divide_up-requires : goal.divide_up-requires
divide_up-requires c = omega (arith, room (goal.at.divide_up-requires c).Start)

pub overflow_cast-result : goal.overflow_cast-result
unfolding time
overflow_cast-result c = omega (arith, most (goal.at.overflow_cast-result c).Start, c.divide_up.ensures)

pub returns : goal.returns
unfolding time
returns c = c.divide_up.ensures
