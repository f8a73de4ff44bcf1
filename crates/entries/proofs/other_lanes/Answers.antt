use Rattle.entries.specs.Judging.{other_lanes}
use Rattle.entries.proofs.other_lanes.Goals as goal

pub returns-in-Left : goal.returns-in-Left
unfolding other_lanes
returns-in-Left c = rw c.in-Left.is c.approach_entry.ensures

pub returns-in-Through : goal.returns-in-Through
unfolding other_lanes
returns-in-Through c = rw c.in-Through.is

pub returns-in-Right : goal.returns-in-Right
unfolding other_lanes
returns-in-Right c = rw c.in-Right.is c.movement_entry.ensures
