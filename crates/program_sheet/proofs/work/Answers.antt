-- `program_sheet::work`. A wrong number of arguments, a file that was not read, and the file.
use Rattle.program_outcome.proofs.Laws.{left_saying}
use mathlib.Core.Path.{sym, ◌∙◌}
use Rattle.program_sheet.proofs.work.Goals as goal

pub returns-then-not-takes : goal.returns-then-not-takes
returns-then-not-takes c =
    let wrong = sym c.takes.ensures ∙ c.if-not-takes.true in
    rw (wrong, c.said.ensures) (left_saying c.put_use.ensures)

pub returns-in_default : goal.returns-in_default
returns-in_default c =
    let right = sym c.takes.ensures ∙ c.if-not-takes.false in
    rw (right, c.in_default.is, c.said-in_default.ensures) (left_saying (rw c.word-name.ensures at c.say.ensures))

pub returns : goal.returns
returns c =
    let right = sym c.takes.ensures ∙ c.if-not-takes.false in
    rw (right, c.in-Some.is) (rw c.front-file.ensures.0 at c.sheet_of_file.ensures)
