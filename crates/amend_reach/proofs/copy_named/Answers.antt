-- Each arm is the copy that it calls, by the name that it was told.
use mathlib.Core.Path.{sym}
use Rattle.amend_reach.proofs.Merging.{merged_none}
use Rattle.amend_reach.proofs.Copies.{all_lines, no_lines}
use Rattle.amend_reach.proofs.copy_named.Goals as goal

pub returns-in_default : goal.returns-in_default
returns-in_default c = rw c.in_default.is (sym (merged_none _ _ _ c.requires.0 (no_lines _ _)))

pub returns-in-All : goal.returns-in-All
returns-in-All c =
    rw (c.in-Some.is, c.in-All.is, all_lines) (rw c.lines.ensures at c.copy_run.ensures)

pub returns-in-Times : goal.returns-in-Times
returns-in-Times c = rw (c.in-Some.is, c.in-Times.is) c.copy_lines.ensures

pub returns-in-Walkers : goal.returns-in-Walkers
returns-in-Walkers c = rw (c.in-Some.is, c.in-Walkers.is) c.copy_lines-in-Walkers.ensures

pub returns-in-Button : goal.returns-in-Button
returns-in-Button c = rw (c.in-Some.is, c.in-Button.is) c.copy_lines-in-Button.ensures

pub returns-in-Crossing : goal.returns-in-Crossing
returns-in-Crossing c = rw (c.in-Some.is, c.in-Crossing.is) c.copy_lines-in-Crossing.ensures
