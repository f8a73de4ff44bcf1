-- `program_open_amend::amend`. Something is said of the office's word or of the study, or else the site is amended.
use Rattle.std.proofs.lemmas.Result.{err_from_is_err_and}
use Rattle.program_open_amend.specs.Run.{open_amend_run}
use Rattle.program_open.proofs.Laws.{gives_said, gives_on}
use Rattle.program_open_amend.proofs.amend.Goals as goal

pub returns-in_err-study : goal.returns-in_err-study
unfolding open_amend_run
returns-in_err-study c =
    let p = err_from_is_err_and c.from_residual.result c.from_residual.ensures.1 in
    let both = gives_said _ _ c.in_err-study.ensures in
    rw (p.1, p.2, ← c.source_found-source.ensures) record { left = both.0; placed = both.1 }

pub returns : goal.returns
unfolding open_amend_run
returns c =
    let taken = c.in_ok-study.ensures in
    let given = rw taken.good at c.amend_words.ensures in
    let both = gives_on _ _ taken (given.left, given.placed) in
    rw (← c.source_found-source.ensures) record { left = both.0; placed = both.1 }
