use Rattle.program_open.proofs.study_of.Goals as goal

pub owners_in-requires : goal.owners_in-requires
owners_in-requires c = c.requires

pub blocks_in-requires : goal.blocks_in-requires
blocks_in-requires c = c.requires

pub returns : goal.returns
returns c = rw (c.owners_in.ensures, c.blocks_in.ensures)
