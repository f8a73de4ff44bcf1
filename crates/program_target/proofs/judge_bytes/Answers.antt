-- `program_target::judge_bytes`. Bytes that are no study, and a study of which all or not all was done.
use Rattle.program_target.specs.Target.{bytes_text}
use Rattle.program_outcome.proofs.Laws.{stops_of, goes_on}
use mathlib.Core.Path.{sym, ◌∙◌}
use Rattle.program_target.proofs.judge_bytes.Goals as goal

pub returns-in-Refused : goal.returns-in-Refused
unfolding bytes_text
returns-in-Refused c =
    rw (sym c.check-answer.ensures ∙ c.in-Refused.is) (stops_of _ _ c.say.ensures)

pub returns-then-whole : goal.returns-then-whole
unfolding bytes_text
returns-then-whole c =
    rw (sym c.check-answer.ensures ∙ c.in_default.is, c.if-whole.true) (goes_on tt)

pub returns : goal.returns
unfolding bytes_text
returns c =
    rw (sym c.check-answer.ensures ∙ c.in_default.is, c.if-whole.false) (stops_of _ _ c.say-2.ensures)
