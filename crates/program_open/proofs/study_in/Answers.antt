-- `program_open::study_in`. Of the office's word something is said, or else the study is taken.
use Rattle.std.proofs.lemmas.Result.{err_from_is_err_and}
use Rattle.program_open.specs.Opening.{open_says}
use Rattle.program_record.proofs.Laws.{else_stops, else_goes_on}
use Rattle.program_open.proofs.study_in.Goals as goal

pub returns-in_err-judge_office : goal.returns-in_err-judge_office
unfolding open_says
returns-in_err-judge_office c =
    let p = err_from_is_err_and c.from_residual.result c.from_residual.ensures.1 in
    rw (p.1, p.2) (else_stops _ _ c.in_err-judge_office.ensures)

pub returns : goal.returns
unfolding open_says
returns c = else_goes_on _ _ c.in_ok-judge_office.ensures (rw c.word.ensures at c.take_source.ensures)
