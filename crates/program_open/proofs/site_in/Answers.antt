use Rattle.program_open.specs.Words.{site_in}
use Rattle.program_open.proofs.site_in.Goals as goal

pub returns : goal.returns
unfolding site_in
returns c = rw (c.number_of.ensures, c.word.ensures) at c.site_of.ensures
