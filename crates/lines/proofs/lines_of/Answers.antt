use Rattle.lines.proofs.lines_of.Goals as goal

pub returns : goal.returns
returns c = rw (c.later_for-later.ensures, c.first_of-first.ensures)
