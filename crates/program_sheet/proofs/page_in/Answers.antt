-- `program_sheet::page_in`. No such site, and the page of a site that there is.
use Rattle.program_site.proofs.Laws.{had}
use Rattle.program_outcome.proofs.Laws.{left_printing}
use Rattle.study.specs.Study.{site_entries}
use Rattle.text.proofs.Laws.{placed_nothing}
use borrow.Author.Tests.{le-leb, lt-leb}
use lib.ListN.{replicate}
use mathlib.Core.Path.{refl}
use Rattle.layout.specs.Entries.{entry_count}
use Rattle.program_sheet.proofs.page_in.Goals as goal

pub returns-then-sites-site : goal.returns-then-sites-site
returns-then-sites-site c =
    let past = rw c.count-sites.ensures.0 at c.if-sites-site.true in
    rw (le-leb _ _ past, c.printed.ensures) (left_printing (placed_nothing _ _))

pub returns : goal.returns
returns c =
    let args = c.args in
    let within = rw c.count-sites.ensures.0 at c.if-sites-site.false in
    let file = args.file.now in
    let entries = had file args.site within entry_count (site_entries file args.site) (replicate entry_count 0) refl in
    rw (lt-leb _ _ within) (rw (c.count-sites.ensures.0, c.site_entries.ensures.entries_after, entries) at c.print_site.ensures)
