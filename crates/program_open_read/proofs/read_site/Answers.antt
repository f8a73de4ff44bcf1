-- `program_open_read::read_site`. A refusal is said of the site; accepted, the page is that of the block, which the sheet begins with.
use Rattle.program_open_read.specs.Run.{read_site}
use Rattle.program_open_read.proofs.Laws.{site_there, front_read}
use Rattle.program_open.proofs.Laws.{left_refused}
use mathlib.Core.Path.{sym, ◌∙◌}
use Rattle.program_open_read.proofs.read_site.Goals as goal

pub returns-in_default : goal.returns-in_default
unfolding read_site
returns-in_default c =
    rw (← c.read_site-answer.ensures.value, ← c.word-word.ensures)
    (left_refused _ _ c.in_default.is c.say_answer_of.ensures)

pub print_sheet-requires : goal.print_sheet-requires
print_sheet-requires c =
    site_there _ _ _ _ (sym c.read_site-answer.ensures.value ∙ c.in-Accepted.is)

pub returns : goal.returns
unfolding read_site
returns c =
    let accepted = sym c.read_site-answer.ensures.value ∙ c.in-Accepted.is in
    rw accepted (rw (c.read_site-answer.ensures.sheet_after, front_read _ _ _ _ accepted) at c.print_sheet.ensures)
