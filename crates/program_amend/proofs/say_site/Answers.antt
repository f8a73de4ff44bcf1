use Rattle.program_outcome.proofs.Laws.{placed_front}
use Rattle.program_amend.proofs.say_site.Goals as goal

pub returns : goal.returns
returns c = rw (placed_front c.say_site-size.ensures) at c.put_sentence.ensures.0
