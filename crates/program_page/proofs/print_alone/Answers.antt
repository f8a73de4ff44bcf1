-- `program_page::print_alone`. The entries are judged: refused, that is said alone; accepted, the page is printed.
use Rattle.program_page.specs.Pages.{site_alone}
use Rattle.program_outcome.proofs.Laws.{left_saying}
use mathlib.Core.Path.{sym, ◌∙◌}
use Rattle.program_page.proofs.print_alone.Goals as goal

pub returns-in-Refused : goal.returns-in-Refused
unfolding site_alone
returns-in-Refused c =
    let bad = sym c.judge-answer.ensures ∙ c.in-Refused.is in
    rw (bad, c.said.ensures) (left_saying c.say_site.ensures)

pub returns : goal.returns
unfolding site_alone
returns c =
    let good = sym c.judge-answer.ensures ∙ c.in_default.is in
    rw good c.print_site.ensures
