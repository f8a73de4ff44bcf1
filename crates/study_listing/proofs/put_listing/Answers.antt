-- `study_listing::put_listing`. The lines of a good file's sites, or a bad file's line.
use mathlib.Core.Path.{sym, ◌∙◌}
use native.Mathlib.Omega.{arith}
use Rattle.study_listing.proofs.Laws.{good_listing, bad_listing}
use Rattle.study_listing.proofs.put_listing.Goals as goal

pub returns-in_default : goal.returns-in_default
returns-in_default c =
    let file = c.args.file.now in
    let bad = bad_listing file c.check-answer.ensures c.in_default.is in
    rw (bad, ← c.place.ensures) c.put_bad_file.ensures

pub put_sites-requires : goal.put_sites-requires
put_sites-requires c = (sym c.check-answer.ensures ∙ c.in-Accepted.is, omega arith)

pub returns : goal.returns
returns c =
    let file = c.args.file.now in
    rw (good_listing file (sym c.check-answer.ensures ∙ c.in-Accepted.is)) c.put_sites.ensures
