use Rattle.program_open_read.proofs.run.Goals as goal

pub returns : goal.returns
returns c = rw c.of.ensures c.read.ensures
