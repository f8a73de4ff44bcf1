-- `study_listing::site_cells`. What a filled sheet shows, or the refusal of the site's entries.
use Rattle.study_listing.proofs.Cells.{site_shows}
use Rattle.study_listing.proofs.site_cells.Goals as goal

pub returns-in-Accepted : goal.returns-in-Accepted
returns-in-Accepted c =
    let there = site_shows c.args.file.now c.args.site _ c.requires in
    rw c.in-Accepted.is at (there c.site_entries.ensures.entries_after c.fill-answer.ensures.value c.fill-answer.ensures.sheet_after)

pub returns-in-Refused : goal.returns-in-Refused
returns-in-Refused c =
    let there = site_shows c.args.file.now c.args.site _ c.requires in
    rw c.in-Refused.is at (there c.site_entries.ensures.entries_after c.fill-answer.ensures.value c.fill-answer.ensures.sheet_after)
