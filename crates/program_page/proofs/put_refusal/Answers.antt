use Rattle.program_outcome.proofs.Laws.{placed_front}
use Rattle.program_page.proofs.put_refusal.Goals as goal

pub returns : goal.returns
returns c = rw (placed_front c.say_answer-size.ensures) at c.put_made.ensures
