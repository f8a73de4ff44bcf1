use Rattle.program_diamond.proofs.put_page.Goals as goal

pub returns : goal.returns
returns c =
    rw (c.front.ensures.0, c.print.ensures) at c.put_under.ensures
