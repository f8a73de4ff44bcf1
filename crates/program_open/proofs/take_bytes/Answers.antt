use Rattle.program_outcome.proofs.Laws.{stops_of, goes_on}
use mathlib.Core.Path.{sym, ◌∙◌}
use Rattle.program_open.proofs.take_bytes.Goals as goal

pub returns-then-not-is_open : goal.returns-then-not-is_open
returns-then-not-is_open c = rw (sym c.is_open.ensures ∙ c.if-not-is_open.true) (stops_of _ _ c.say_unopened.ensures)

pub returns : goal.returns
returns c = rw (sym c.is_open.ensures ∙ c.if-not-is_open.false) (goes_on c.study_of.ensures)
