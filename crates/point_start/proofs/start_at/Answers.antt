use Rattle.point_start.proofs.start_at.Goals as goal

pub returns : goal.returns
returns c = rw (c.start_of.ensures, c.of.ensures, c.at.ensures)
