use Rattle.text_writer.proofs.closing.Goals as goal

pub returns-then-is_last : goal.returns-then-is_last
returns-then-is_last c = rw (← c.is_last.ensures, c.if-is_last.true)

pub returns : goal.returns
returns c = rw (← c.is_last.ensures, c.if-is_last.false)
