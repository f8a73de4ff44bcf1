-- Each fault's own check.
use Rattle.entries.proofs.check_for.Goals as goal

pub returns-in-Range : goal.returns-in-Range
returns-in-Range c = rw (c.in-Range.is, ← c.whole-entries.ensures) c.check_ranges.ensures

pub returns-in-Shared : goal.returns-in-Shared
returns-in-Shared c = rw (c.in-Shared.is, ← c.whole-entries.ensures) c.check_each.ensures

pub returns-in-NoLane : goal.returns-in-NoLane
returns-in-NoLane c = rw (c.in-NoLane.is, ← c.whole-entries.ensures) c.check_each-in-NoLane.ensures
