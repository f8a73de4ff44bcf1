-- `program_words::end_of`. The place of the first byte 0 of the rest, or the end of the bytes.
use Rattle.std.proofs.Common.{ℕ, ◌+◌, drop, eqb, ap, arith, rules, tests}
use Rattle.std.proofs.lemmas.List.{take_rest, length-drop}
use Rattle.std.proofs.lemmas.Iterator.{YieldsList-from_slice}
use Rattle.std.proofs.lemmas.Iterator.Search.{position_from_yields_List}
use Rattle.program_words.proofs.Laws.{first_within, end_is}
use Rattle.program_words.proofs.end_of.Goals as goal

pub returns : goal.returns
returns c =
    let rest = drop c.args.from c.args.words.now in
    let found = position_from_yields_List (λ byte. eqb byte 0) _ _ c.position.result c.position.ensures.ran (YieldsList-from_slice _ c.iter.ensures.rest) (λ x b q k. search (rules, tests)) in
    let is = rw (found, take_rest c.args.words.now c.args.from, end_is rest) at c.unwrap_or.ensures in
    (ap (λ n. c.args.from + n) is, omega (arith, is, first_within rest, length-drop {A = ℕ}))
