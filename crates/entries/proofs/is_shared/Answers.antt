use Rattle.entries.proofs.is_shared.Goals as goal

pub returns : goal.returns
returns c = rw c.approach_entry.ensures
