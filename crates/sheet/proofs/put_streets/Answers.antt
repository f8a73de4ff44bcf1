use Rattle.layout.specs.Sheet.{pairs_from}
use Rattle.lists.specs.Lists.{over}
use Rattle.sheet.proofs.Laws.{rest_assembled}
use mathlib.Core.Path.{ap, ◌∙◌}
use Rattle.sheet.proofs.put_streets.Goals as goal

pub last_at-last-requires : goal.last_at-last-requires
last_at-last-requires c = (c.requires.entries_value.0, c.requires.street_at.0, c.requires.street_at.1)

pub returns : goal.returns
returns c =
    let e = c.args.entries.now in
    let k = c.args.kind in
    c.put_rest.ensures
    ∙ ap (over c.args.all.now (pairs_from k)) (rest_assembled k e c.requires.street_at.0.pair c.requires.street_at.1.pair c.last_at-last.ensures)
