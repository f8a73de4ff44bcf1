-- `program_record::take_words`. A word is none, and that is said; or it is a value more; or all are.
use Rattle.std.proofs.lemmas.Result.{err_from_is_err_and}
use Rattle.program_record.proofs.Laws.{taken_none, taken_stops, taken_more, taken_all}
use native.Mathlib.Omega.{arith}
use Rattle.program_record.proofs.take_words.Goals as goal

pub loop-k-init : goal.loop-k-init
loop-k-init c = taken_none _ _ _

pub returns-in_err-take_word : goal.returns-in_err-take_word
returns-in_err-take_word c =
    let p = err_from_is_err_and c.from_residual.result c.from_residual.ensures.1 in
    rw (p.1, p.2) (taken_stops _ c.loop-k.invariant (omega arith) c.in_err-take_word.ensures)

pub loop-k-preserved : goal.loop-k-preserved
loop-k-preserved c =
    taken_more _ c.loop-k.invariant (omega arith) (omega arith) c.in_ok-take_word.ensures

pub returns : goal.returns
returns c = taken_all _ c.loop-k.invariant (omega arith)
