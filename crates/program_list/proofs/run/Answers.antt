-- `program_list::run`. A case for each wish; where there is work to do, by the number of arguments.
use Rattle.program_list.specs.Run.{list_run}
use Rattle.program_outcome.proofs.Laws.{left_printing, left_saying}
use mathlib.Core.Path.{sym, ◌∙◌}
use Rattle.program_list.proofs.run.Goals as goal

pub returns-then-takes : goal.returns-then-takes
unfolding list_run
returns-then-takes c =
    let is = sym (rw c.word.ensures at c.wish_of.ensures) ∙ c.in-Work.is in
    rw (is, sym c.takes.ensures ∙ c.if-takes.true) c.list_read.ensures

pub returns-in-Help : goal.returns-in-Help
unfolding list_run
returns-in-Help c =
    let is = sym (rw c.word.ensures at c.wish_of.ensures) ∙ c.in-Help.is in
    rw (is, c.printed.ensures) (left_printing c.put_use.ensures)

pub returns-in-Version : goal.returns-in-Version
unfolding list_run
returns-in-Version c =
    let is = sym (rw c.word.ensures at c.wish_of.ensures) ∙ c.in-Version.is in
    rw (is, c.printed-in-Version.ensures) (left_printing c.put_version.ensures)

pub returns-else-takes : goal.returns-else-takes
unfolding list_run
returns-else-takes c =
    let is = sym (rw c.word.ensures at c.wish_of.ensures) ∙ c.in-Work.is in
    rw (is, sym c.takes.ensures ∙ c.if-takes.false, c.said.ensures) (left_saying c.put_use-in-Work.ensures)
