use Rattle.study.proofs.site_answer.Goals as goal

pub returns : goal.returns
returns c = rw (← c.format_of.ensures.0) c.site_answer.ensures
