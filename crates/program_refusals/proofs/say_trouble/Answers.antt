use Rattle.program_outcome.proofs.Laws.{placed_front}
use Rattle.program_refusals.proofs.say_trouble.Goals as goal

pub returns : goal.returns
returns c = rw (placed_front c.say_trouble-size.ensures) at c.put_saying_of.ensures
