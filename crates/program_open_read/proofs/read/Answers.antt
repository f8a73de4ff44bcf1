-- `program_open_read::read`. Something is said of the office's word or of the study, or else the site is read.
use Rattle.std.proofs.lemmas.Result.{err_from_is_err_and}
use Rattle.program_open_read.specs.Run.{open_read_run}
use Rattle.program_open.proofs.Laws.{left_said, left_on}
use Rattle.program_open_read.proofs.read.Goals as goal

pub returns-in_err-study : goal.returns-in_err-study
unfolding open_read_run
returns-in_err-study c =
    let p = err_from_is_err_and c.from_residual.result c.from_residual.ensures.1 in
    rw (p.1, p.2, ← c.source_read.ensures) (left_said _ _ c.in_err-study.ensures)

pub returns : goal.returns
unfolding open_read_run
returns c =
    let taken = c.in_ok-study.ensures in
    rw (← c.source_read.ensures) (left_on _ _ taken (rw taken.good at c.read_site.ensures))
