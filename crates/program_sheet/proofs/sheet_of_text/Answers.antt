-- `program_sheet::sheet_of_text`. A study file, and what may be a text.
use Rattle.program_sheet.specs.Run.{sheet_of_text}
use Rattle.program_outcome.proofs.Laws.{left_saying}
use mathlib.Core.Path.{sym, ◌∙◌}
use Rattle.program_sheet.proofs.sheet_of_text.Goals as goal

pub returns-in-Accepted : goal.returns-in-Accepted
unfolding sheet_of_text
returns-in-Accepted c =
    let good = sym c.check-answer.ensures ∙ c.in-Accepted.is in
    rw (good, c.said.ensures) (left_saying c.say.ensures)

pub returns : goal.returns
unfolding sheet_of_text
returns c =
    let other = sym c.check-answer.ensures ∙ c.in_default.is in
    rw other c.read_text.ensures
