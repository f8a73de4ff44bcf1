-- `program_sheet::sheet_of_site`. A case for each way that looking for the site can come out.
use Rattle.program_sheet.specs.Run.{sheet_of_site}
use Rattle.program_outcome.proofs.Laws.{left_saying}
use Rattle.program_site.proofs.Laws.{site_counted}
use mathlib.Core.Path.{sym, ◌∙◌}
use native.Mathlib.Omega.{arith}
use Rattle.program_sheet.proofs.sheet_of_site.Goals as goal

pub print_alone-requires : goal.print_alone-requires
print_alone-requires c =
    let count = c.count.ensures in
    let args = c.args in
    let is = sym c.read_site-sought.ensures.value ∙ c.in-Ok.is in
    omega (arith, site_counted args.file.now args.word.now _ is, count.0, count.1)

pub returns : goal.returns
unfolding sheet_of_site
returns c =
    let is = sym c.read_site-sought.ensures.value ∙ c.in-Ok.is in
    rw is (rw (c.count.ensures.0, c.read_site-sought.ensures.entries_after, is) at c.print_alone.ensures)

pub returns-in_default : goal.returns-in_default
unfolding sheet_of_site
returns-in_default c =
    let is = sym c.read_site-sought.ensures.value ∙ c.in_default.is in
    rw (is, c.said.ensures) (left_saying (rw c.in_default.is at c.say_site.ensures))
