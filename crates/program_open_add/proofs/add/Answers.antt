-- `program_open_add::add`. Something is said of the office's word or of the study, or else of the text, or else the site is added.
use Rattle.std.proofs.lemmas.Result.{err_from_is_err_and}
use Rattle.program_open_add.specs.Run.{open_add_run}
use Rattle.program_open.proofs.Laws.{gives_said, gives_on}
use Rattle.program_open_add.proofs.add.Goals as goal

pub returns-in_err-study : goal.returns-in_err-study
unfolding open_add_run
returns-in_err-study c =
    let p = err_from_is_err_and c.from_residual.result c.from_residual.ensures.1 in
    let both = gives_said _ _ c.in_err-study.ensures in
    rw (p.1, p.2, ← c.source_found-source.ensures) record { left = both.0; placed = both.1 }

pub returns-in_err-take_file : goal.returns-in_err-take_file
unfolding open_add_run
returns-in_err-take_file c =
    let p = err_from_is_err_and c.from_residual-in_err-take_file.result c.from_residual-in_err-take_file.ensures.1 in
    let both = gives_on _ _ c.in_ok-study.ensures (gives_said _ _ c.in_err-take_file.ensures) in
    rw (p.1, p.2, ← c.source_found-source.ensures, ← c.word-name.ensures) record { left = both.0; placed = both.1 }

pub returns : goal.returns
unfolding open_add_run
returns c =
    let taken = c.in_ok-study.ensures in
    let text = c.in_ok-take_file.ensures in
    let given = rw (text.good, taken.good) at c.add_site.ensures in
    let both = gives_on _ _ taken (gives_on _ _ text (given.left, given.placed)) in
    rw (← c.source_found-source.ensures, ← c.word-name.ensures) record { left = both.0; placed = both.1 }
