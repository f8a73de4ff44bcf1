use Rattle.entries.specs.Judging.{outside}
use Rattle.entries.proofs.is_outside.Goals as goal

pub returns : goal.returns
unfolding outside
returns c = rw (c.holds.ensures, c.at.ensures)
