-- `program_study::tell`. What is given in each case.
use Rattle.program_study.specs.Run.{told_of}
use Rattle.program_outcome.proofs.Laws.{left_printing, left_saying}
use Rattle.text.specs.Text.{ascii}
use Rattle.text.proofs.Laws.{placed_nothing}
use Rattle.program_study.proofs.tell.Goals as goal

pub returns-in-Make : goal.returns-in-Make
unfolding told_of
returns-in-Make c = rw (c.in-Make.is, c.said.ensures) (left_saying (placed_nothing _ 0))

pub returns-in-Show : goal.returns-in-Show
unfolding told_of
returns-in-Show c = rw (c.in-Show.is, c.said-in-Show.ensures) (left_saying (placed_nothing _ 0))

pub returns-in-Convert : goal.returns-in-Convert
unfolding told_of
returns-in-Convert c = rw (c.in-Convert.is, c.said-in-Convert.ensures) (left_saying (placed_nothing _ 0))

pub returns-in-TooMany : goal.returns-in-TooMany
unfolding told_of ascii
returns-in-TooMany c =
    rw (c.in-TooMany.is, c.said-in-TooMany.ensures) (left_saying c.put_bytes.ensures)

pub returns-in-Use : goal.returns-in-Use
unfolding told_of
returns-in-Use c =
    rw (c.in-Use.is, c.said-in-Use.ensures) (left_saying c.put_use.ensures)

pub returns-in-Help : goal.returns-in-Help
unfolding told_of
returns-in-Help c =
    rw (c.in-Help.is, c.printed.ensures) (left_printing c.put_use-in-Help.ensures)

pub returns-in-Version : goal.returns-in-Version
unfolding told_of
returns-in-Version c =
    rw (c.in-Version.is, c.printed-in-Version.ensures) (left_printing c.put_version.ensures)

pub returns-in-Point : goal.returns-in-Point
unfolding told_of
returns-in-Point c =
    rw (c.in-Point.is, c.printed-in-Point.ensures) (left_printing c.put_point.ensures)
