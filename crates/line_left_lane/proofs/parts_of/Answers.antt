-- `line_left_lane::parts_of`. Lefts alone by a law; else each step of the divisor fits.
use Rattle.line_bounds.proofs.LeftLane.{PartsRoom, parts_room, parts_of_lefts}
use mathlib.Core.Path.{refl}
use native.Mathlib.Omega.{arith}
use Rattle.line_left_lane.proofs.parts_of.Goals.{Start}
use Rattle.line_left_lane.proofs.parts_of.Goals as goal

room : (s : Start) → PartsRoom s.args.share s.args.equivalent
room s = parts_room s.args.share s.args.equivalent s.requires.0 s.requires.1 s.requires.2

pub returns-then-share-eq-WHOLE : goal.returns-then-share-eq-WHOLE
returns-then-share-eq-WHOLE c = rw (c.if-share-eq-WHOLE.true, parts_of_lefts)

pub overflow_mul-under : goal.overflow_mul-under
overflow_mul-under c = omega (arith, room (goal.at.overflow_mul-under c).Start)

pub overflow_add-under : goal.overflow_add-under
overflow_add-under c = omega (arith, room (goal.at.overflow_add-under c).Start)

pub overflow_cast-result : goal.overflow_cast-result
overflow_cast-result c = omega (arith, room (goal.at.overflow_cast-result c).Start)

pub returns : goal.returns
returns c = refl
