-- `program_record::gather`. Something is said of the west's file, or else of the east's, or else of the words; or the record is whole.
use Rattle.std.proofs.lemmas.Result.{err_from_is_err_and}
use Rattle.program_record.specs.Arguments.{arguments_say, record_of}
use Rattle.program_record.proofs.Laws.{else_stops, else_goes_on, made_so, whole_record}
use native.Mathlib.Omega.{arith}
use Rattle.program_record.proofs.gather.Goals as goal

pub returns-in_err-take_junction : goal.returns-in_err-take_junction
unfolding arguments_say
returns-in_err-take_junction c =
    let p = err_from_is_err_and c.from_residual.result c.from_residual.ensures.1 in
    rw (p.1, p.2) (else_stops _ _ (rw c.word.ensures at c.in_err-take_junction.ensures.made))

pub returns-in_err-take_junction-2 : goal.returns-in_err-take_junction-2
unfolding arguments_say
returns-in_err-take_junction-2 c =
    let p = err_from_is_err_and c.from_residual-in_err-take_junction-2.result c.from_residual-in_err-take_junction-2.ensures.1 in
    rw (p.1, p.2)
    (else_goes_on _ _ (rw c.word.ensures at c.in_ok-take_junction.ensures.made)
    (else_stops _ _ (rw c.word-2.ensures at c.in_err-take_junction-2.ensures.made)))

pub returns : goal.returns
unfolding arguments_say record_of
returns c =
    let west = rw c.word.ensures at c.in_ok-take_junction.ensures in
    let east = rw c.word-2.ensures at c.in_ok-take_junction-2.ensures in
    let a = c.args in
    else_goes_on _ _ west.made
    (else_goes_on _ _ east.made
    (made_so c.take_words.ensures
    (λ so. whole_record a.words.now a.numbers.now _ _ (omega arith) west.area_len west.made.good east.area_len east.made.good so)))
