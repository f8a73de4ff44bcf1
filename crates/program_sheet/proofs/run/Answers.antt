-- `program_sheet::run`. How it is called, its version, and its work.
use Rattle.program_sheet.specs.Run.{sheet_run}
use Rattle.program_outcome.proofs.Laws.{left_printing}
use mathlib.Core.Path.{sym, ◌∙◌}
use Rattle.program_sheet.proofs.run.Goals as goal

pub returns-in-Help : goal.returns-in-Help
unfolding sheet_run
returns-in-Help c =
    let is = rw c.word.ensures at (sym c.wish_of.ensures ∙ c.in-Help.is) in
    rw (is, c.printed.ensures) (left_printing c.put_use.ensures)

pub returns-in-Version : goal.returns-in-Version
unfolding sheet_run
returns-in-Version c =
    let is = rw c.word.ensures at (sym c.wish_of.ensures ∙ c.in-Version.is) in
    rw (is, c.printed-in-Version.ensures) (left_printing c.put_version.ensures)

pub returns-in-Work : goal.returns-in-Work
unfolding sheet_run
returns-in-Work c =
    let is = rw c.word.ensures at (sym c.wish_of.ensures ∙ c.in-Work.is) in
    rw is c.work.ensures
