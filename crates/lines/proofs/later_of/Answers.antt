use mathlib.Core.Path.{refl}
use Rattle.lines.proofs.later_of.Goals as goal

pub left_lane_of-lane-requires : goal.left_lane_of-lane-requires
left_lane_of-lane-requires c =
    rw c.requires.2 (c.requires.0, refl, refl, c.meeting_of-m.ensures, c.requires.4)

pub returns : goal.returns
returns c = rw (c.split_of.ensures, c.permitted_of-permitted.ensures, c.left_lane_of-lane.ensures)
