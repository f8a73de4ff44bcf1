use Rattle.lines.proofs.first_of.Goals as goal

pub returns : goal.returns
returns c = rw (c.times_of-times.ensures, c.walking_of-walking.ensures, c.flows_of-flows.ensures, c.volumes_of-volumes.ensures)
