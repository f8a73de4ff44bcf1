use Rattle.program_heading.proofs.shown_byte.Goals as goal

pub returns-then-is_steering : goal.returns-then-is_steering
returns-then-is_steering c = rw (← c.is_steering.ensures, c.if-is_steering.true)

pub returns : goal.returns
returns c = rw (← c.is_steering.ensures, c.if-is_steering.false)
