-- `program_office::tell`. What is given in each case.
use Rattle.program_office.specs.Run.{told_of}
use Rattle.program_outcome.proofs.Laws.{left_printing, left_saying}
use Rattle.text.proofs.Laws.{placed_nothing}
use Rattle.program_office.proofs.tell.Goals as goal

pub returns-in-New : goal.returns-in-New
unfolding told_of
returns-in-New c = rw (c.in-New.is, c.said.ensures) (left_saying (placed_nothing _ 0))

pub returns-in-Add : goal.returns-in-Add
unfolding told_of
returns-in-Add c = rw (c.in-Add.is, c.said-in-Add.ensures) (left_saying (placed_nothing _ 0))

pub returns-in-Amend : goal.returns-in-Amend
unfolding told_of
returns-in-Amend c = rw (c.in-Amend.is, c.said-in-Amend.ensures) (left_saying (placed_nothing _ 0))

pub returns-in-Read : goal.returns-in-Read
unfolding told_of
returns-in-Read c = rw (c.in-Read.is, c.said-in-Read.ensures) (left_saying (placed_nothing _ 0))

pub returns-in-Use : goal.returns-in-Use
unfolding told_of
returns-in-Use c =
    rw (c.in-Use.is, c.said-in-Use.ensures) (left_saying c.put_use.ensures)

pub returns-in-Help : goal.returns-in-Help
unfolding told_of
returns-in-Help c =
    rw (c.in-Help.is, c.printed.ensures) (left_printing c.put_use-in-Help.ensures)

pub returns-in-Version : goal.returns-in-Version
unfolding told_of
returns-in-Version c =
    rw (c.in-Version.is, c.printed-in-Version.ensures) (left_printing c.put_version.ensures)
