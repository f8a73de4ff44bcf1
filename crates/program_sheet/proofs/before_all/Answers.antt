use Rattle.program_sheet.proofs.Laws.{said_alone}
use Rattle.program_sheet.specs.Run.{before_all}
use Rattle.program_outcome.proofs.Laws.{left_saying}
use Rattle.text.specs.Text.{ascii}
use Rattle.program_sheet.proofs.before_all.Goals as goal

pub returns : goal.returns
unfolding before_all ascii
returns c =
    let read = c.read_site-sought in
    rw (← read.ensures.value, said_alone read.result _ _, c.said.ensures) (left_saying c.say_site.ensures)
