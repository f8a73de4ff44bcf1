-- `program_list::list_read`. A file that was not read, and one that was.
use Rattle.program_list.specs.Run.{list_read}
use Rattle.program_outcome.proofs.Laws.{left_printing, left_saying}
use Rattle.program_list.proofs.list_read.Goals as goal

pub returns-in_default : goal.returns-in_default
unfolding list_read
returns-in_default c = rw (c.in_default.is, c.said.ensures) (left_saying c.say_unread.ensures)

pub returns : goal.returns
unfolding list_read
returns c =
    rw (c.in-Some.is, c.printed.ensures) (left_printing (rw c.front.ensures.0 at c.print_listing-prints.ensures))
