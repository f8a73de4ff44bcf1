-- A junction's are worked out; a single point has none.
use Rattle.lines.proofs.later_for.Goals as goal

pub returns-in-Junction : goal.returns-in-Junction
returns-in-Junction c = rw c.in-Junction.is c.later_of.ensures

pub returns-in-Point : goal.returns-in-Point
returns-in-Point c = rw c.in-Point.is
