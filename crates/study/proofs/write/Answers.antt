use Rattle.study_format.specs.Format.{file_of}
use Rattle.study.proofs.write.Goals as goal

pub returns-clause-out_after : goal.returns-clause-out_after
unfolding file_of
returns-clause-out_after c = c.write.ensures.out_after
