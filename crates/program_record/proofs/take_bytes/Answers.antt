-- `program_record::take_bytes`. A study file, and what may be a text.
use Rattle.program_outcome.proofs.Laws.{stops_of}
use mathlib.Core.Path.{sym, ◌∙◌}
use Rattle.program_record.proofs.take_bytes.Goals as goal

pub returns-in-Accepted : goal.returns-in-Accepted
returns-in-Accepted c =
    rw (sym c.check-answer.ensures ∙ c.in-Accepted.is) (stops_of _ _ c.say.ensures)

pub returns : goal.returns
returns c =
    rw (sym c.check-answer.ensures ∙ c.in_default.is) c.take_text.ensures
