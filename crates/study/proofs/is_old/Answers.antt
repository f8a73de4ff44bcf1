use Rattle.study.proofs.is_old.Goals as goal

pub returns : goal.returns
returns c = c.opens.ensures
