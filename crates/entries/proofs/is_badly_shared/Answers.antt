-- Each kind's own question.
use Rattle.entries.specs.Judging.{badly_shared}
use Rattle.entries.proofs.is_badly_shared.Goals as goal

pub returns-in-Junction : goal.returns-in-Junction
returns-in-Junction c = rw c.in-Junction.is c.is_badly_placed.ensures

pub returns-in-Point : goal.returns-in-Point
unfolding badly_shared
returns-in-Point c = rw c.in-Point.is c.is_shared.ensures
