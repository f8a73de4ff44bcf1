-- `text_names::row_of`. The rows are asked one after the other whether the word is theirs.
use Rattle.text_names.specs.Names.{is_word}
use Rattle.text_names.proofs.Laws.{found_by}
use Rattle.std.proofs.Common.{◌≡◌, true, false, rules, tests}
use Rattle.std.proofs.lemmas.Iterator.{first_from_Range}
use Rattle.text_names.proofs.row_of.Goals as goal

pub returns : goal.returns
returns c =
    let word = c.args.word.now in
    let found = found_by word c.find.result
    (first_from_Range _ _ _ _ (λ i. true ≡ is_word word i) (λ i. false ≡ is_word word i) c.find.ensures.ran
    (λ x q k. search (rules, tests)) (λ x q k. (search rules, search (rules, tests)))) in
    record { value = found.0; bound = found.1 }
