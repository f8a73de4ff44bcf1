use Rattle.program_open.specs.Words.{office_in}
use Rattle.program_open.proofs.office_in.Goals as goal

pub returns : goal.returns
unfolding office_in
returns c = rw c.word.ensures at c.office_of.ensures
