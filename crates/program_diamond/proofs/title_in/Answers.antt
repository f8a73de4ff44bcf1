use Rattle.program_diamond.proofs.title_in.Goals as goal

pub returns : goal.returns
returns c = rw (c.unmarked.ensures, c.bytes_of.ensures) at c.title_in.ensures
