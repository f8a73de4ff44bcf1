-- `program_page::put_page`. The fill answers as the entries are judged: refused, the page says why; accepted, it is that of the front.
use Rattle.program_page.specs.Pages.{body_of}
use Rattle.layout.specs.Sheet.{page_count}
use Rattle.layout.specs.declared.Worksheet.TheVariants.{Junction}
use Rattle.sheet_beside.proofs.Laws.{filled_front}
use lib.ListN.{replicate}
use mathlib.Core.Path.{sym, ◌∙◌}
use Rattle.program_page.proofs.put_page.Goals as goal

pub returns-in_default : goal.returns-in_default
unfolding body_of
returns-in_default c =
    let bad = sym c.fill-answer.ensures.value ∙ c.in_default.is in
    rw bad (rw c.in_default.is at c.put_refusal.ensures)

pub returns : goal.returns
unfolding body_of
returns c =
    let good = sym c.fill-answer.ensures.value ∙ c.in-Accepted.is in
    let front = filled_front c.args.kind c.args.entries.now (replicate (page_count Junction) 0) good in
    rw good (rw (c.fill-answer.ensures.all_after, front) at c.put_sheet.ensures)
