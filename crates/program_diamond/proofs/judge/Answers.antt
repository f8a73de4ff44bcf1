-- `program_diamond::judge`. An acceptable record fills the list; of one that is refused, something is said.
use Rattle.diamond_beside.specs.Beside.{filled_page}
use Rattle.program_diamond.proofs.Laws.{refusal_long}
use Rattle.program_outcome.proofs.Laws.{stops, goes_on}
use mathlib.Core.Path.{sym, ◌∙◌}
use Rattle.program_diamond.proofs.judge.Goals as goal

pub returns-in-Accepted : goal.returns-in-Accepted
unfolding filled_page
returns-in-Accepted c =
    let fill = c.fill-answer.ensures in
    let good = sym fill.value ∙ c.in-Accepted.is in
    rw good (goes_on (rw good at fill.all_after))

pub returns-in-Refused : goal.returns-in-Refused
returns-in-Refused c =
    let bad = sym c.fill-answer.ensures.value ∙ c.in-Refused.is in
    rw bad (stops (refusal_long _ _ _) c.say_refusal.ensures)
