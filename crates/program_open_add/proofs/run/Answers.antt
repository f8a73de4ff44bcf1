use Rattle.program_open_add.proofs.run.Goals as goal

pub returns : goal.returns
returns c = rw c.of.ensures record { left = c.add.ensures.left; placed = c.add.ensures.placed }
