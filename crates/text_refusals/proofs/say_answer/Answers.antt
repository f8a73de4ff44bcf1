-- `text_refusals::say_answer`. Nothing, or the refusal.
use Rattle.text.proofs.Laws.{placed_nothing}
use Rattle.text_refusals.proofs.say_answer.Goals as goal

pub returns-in-Accepted : goal.returns-in-Accepted
returns-in-Accepted c = rw c.in-Accepted.is (placed_nothing _ _)

pub returns-in-Refused : goal.returns-in-Refused
returns-in-Refused c = rw c.in-Refused.is c.put_refusal.ensures.0
