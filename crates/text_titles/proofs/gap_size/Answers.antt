use Rattle.std.proofs.Common.{rules, tests, ◌≡◌}
use Rattle.std.specs.List.{position}
use Rattle.std.proofs.lemmas.Iterator.{YieldsList-from_slice}
use Rattle.std.proofs.lemmas.Iterator.Search.{position_from_yields_List}
use Rattle.text_titles.specs.Titles.{ends_gap}
use Rattle.text_titles.proofs.Laws.{first_found}
use Rattle.text_titles.proofs.gap_size.Goals as goal

pub returns : goal.returns
returns c =
    let text = c.args.text.now in
    let found : c.position-end.result ≡ position ends_gap text =
    position_from_yields_List ends_gap _ _ c.position-end.result c.position-end.ensures.ran (YieldsList-from_slice text cc) (λ x b q k. search (rules, tests)) in
    rw (c.unwrap_or.ensures, found) (first_found ends_gap text)
