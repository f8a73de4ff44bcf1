use Rattle.program_sheet.specs.Run.{page_at}
use Rattle.program_outcome.proofs.Laws.{left_printing}
use Rattle.text.proofs.Laws.{placed_nothing}
use Rattle.program_sheet.proofs.page.Goals as goal

pub returns-in_default : goal.returns-in_default
unfolding page_at
returns-in_default c = rw (c.in_default.is, c.printed.ensures) (left_printing (placed_nothing _ _))

pub returns : goal.returns
unfolding page_at
returns c =
    rw c.in-Some.is (rw (c.word-name.ensures, c.front.ensures.0) at c.page_in.ensures)
