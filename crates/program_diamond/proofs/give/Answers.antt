-- `program_diamond::give`. Where something is said, nothing is printed; else the page of the record is.
use Rattle.std.proofs.lemmas.Result.{err_from_is_err_and}
use Rattle.program_diamond.specs.Run.{diamond_prints}
use Rattle.program_diamond.proofs.Laws.{left_said, left_printed}
use Rattle.program_diamond.proofs.give.Goals as goal

pub returns-in_err-collect : goal.returns-in_err-collect
returns-in_err-collect c =
    let p = err_from_is_err_and c.from_residual.result c.from_residual.ensures.1 in
    rw (p.1, p.2) (left_said _ _ c.in_err-collect.ensures)

pub returns : goal.returns
unfolding diamond_prints
returns c =
    let made = c.in_ok-collect.ensures in
    rw c.printed.ensures (left_printed _ _ made (rw made.good at c.print-prints.ensures))
