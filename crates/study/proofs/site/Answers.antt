use Rattle.study.proofs.site.Goals as goal

pub returns : goal.returns
returns c = rw (← c.format_of.ensures.0) c.site.ensures
