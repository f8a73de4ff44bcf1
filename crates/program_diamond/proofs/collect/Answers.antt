use Rattle.std.proofs.lemmas.Result.{err_from_is_err_and}
use Rattle.program_record.proofs.Laws.{else_stops, else_goes_on}
use Rattle.program_diamond.specs.Run.{diamond_says}
use Rattle.program_diamond.proofs.collect.Goals as goal

pub returns-in_err-gather : goal.returns-in_err-gather
unfolding diamond_says
returns-in_err-gather c =
    let p = err_from_is_err_and c.from_residual.result c.from_residual.ensures.1 in
    rw (p.1, p.2) (else_stops _ _ c.in_err-gather.ensures)

pub returns : goal.returns
unfolding diamond_says
returns c =
    let made = c.in_ok-gather.ensures in
    else_goes_on _ _ made (rw made.good at c.judge.ensures)
