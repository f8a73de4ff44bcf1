use Rattle.program_outcome.proofs.Laws.{placed_front}
use Rattle.program_changes.proofs.put_why.Goals as goal

pub returns : goal.returns
returns c =
    (rw (placed_front c.say_why-size.ensures) at c.put_sentence.ensures.0, c.put_sentence.ensures.1)
