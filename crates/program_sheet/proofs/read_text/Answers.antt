-- `program_sheet::read_text`. A case for each way that reading can come out.
use Rattle.program_outcome.proofs.Laws.{left_saying}
use mathlib.Core.Path.{sym, ◌∙◌}
use Rattle.program_sheet.proofs.read_text.Goals as goal

pub returns-in-Ok : goal.returns-in-Ok
returns-in-Ok c =
    let is = sym c.read-reading.ensures.value ∙ c.in-Ok.is in
    rw is (rw (c.read-reading.ensures.entries_after, is) at c.print_text.ensures)

pub returns-in-Err : goal.returns-in-Err
returns-in-Err c =
    let is = sym c.read-reading.ensures.value ∙ c.in-Err.is in
    rw (is, c.said.ensures) (left_saying (rw c.in-Err.is at c.say_reading.ensures))
