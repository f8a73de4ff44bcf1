use Rattle.program_diamond.proofs.put_heading.Goals as goal

pub returns : goal.returns
returns c =
    rw (c.title_in-2.ensures, c.word-2.ensures, c.title_in.ensures, c.word.ensures) at c.head_diamond.ensures
