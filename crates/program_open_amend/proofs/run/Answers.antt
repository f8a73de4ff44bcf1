use Rattle.program_open_amend.proofs.run.Goals as goal

pub returns : goal.returns
returns c = rw c.of.ensures record { left = c.amend.ensures.left; placed = c.amend.ensures.placed }
