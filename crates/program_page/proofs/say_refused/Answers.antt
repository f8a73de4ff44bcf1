use Rattle.text.proofs.Laws.{placed_nothing}
use mathlib.Core.Path.{sym, ◌∙◌}
use Rattle.program_page.proofs.say_refused.Goals as goal

pub returns-in-Accepted : goal.returns-in-Accepted
returns-in-Accepted c = rw (sym c.judge-answer.ensures ∙ c.in-Accepted.is) (placed_nothing _ _)

pub returns-in-Refused : goal.returns-in-Refused
returns-in-Refused c =
    let bad = sym c.judge-answer.ensures ∙ c.in-Refused.is in
    rw bad (rw c.in-Refused.is at c.say_answer_of.ensures)
