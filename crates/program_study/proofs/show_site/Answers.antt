-- `program_study::show_site`. A case for each way that looking for the site can come out.
use Rattle.program_study.specs.Run.{show_at}
use Rattle.program_outcome.proofs.Laws.{left_printing, left_saying}
use mathlib.Core.Path.{sym, ◌∙◌}
use Rattle.program_study.proofs.show_site.Goals as goal

pub returns-in-Ok : goal.returns-in-Ok
unfolding show_at
returns-in-Ok c =
    let is = sym c.read_site-sought.ensures.value ∙ c.in-Ok.is in
    rw (is, c.printed.ensures) (left_printing (rw (c.read_site-sought.ensures.entries_after, is) at c.put_text.ensures))

pub returns-in-Err : goal.returns-in-Err
unfolding show_at
returns-in-Err c =
    let is = sym c.read_site-sought.ensures.value ∙ c.in-Err.is in
    rw (is, c.said.ensures) (left_saying (rw c.in-Err.is at c.say_site.ensures))
