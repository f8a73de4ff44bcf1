-- `diamond_beside::put_all`. The three parts are put one after the other, and take the place of the whole list.
use Rattle.layout.specs.Diamond.{storages_from}
use Rattle.lists.proofs.Laws.{over_then, over_whole}
use Rattle.procedure.specs.Sheet.{sheet}
use Rattle.diamond_rules.specs.Record.{west, east}
use Rattle.diamond_rules.specs.Lines.{diamond}
use Rattle.diamond_beside.specs.Beside.{volumes, rooms, ratios, page_numbers}
use Rattle.diamond_beside.proofs.Laws.{sheets_length, own_length, ratio_numbers}
use lib.ListN.{drop, length-append}
use mathlib.Core.List.{◌++◌}
use mathlib.Core.Path.{◌∙◌}
use native.Mathlib.Omega.{arith}
use Rattle.diamond_beside.proofs.put_all.Goals as goal

pub returns : goal.returns
unfolding page_numbers
returns c =
    let r = c.args.given.numbers.now in
    let d = c.args.all.now in
    let sheets = sheet (west r) ++ sheet (east r) in
    let own = drop storages_from r ++ diamond r in
    let last = volumes r ++ rooms r ++ ratios r in
    let two = rw c.requires at c.put_cells.ensures in
    let long = sheets_length r c.args.given.accepted in
    let more = own_length r c.args.given.accepted in
    let rest = ratio_numbers r in
    let both = over_then d 0 sheets own c.put_sheets.ensures two (omega (arith, long)) (omega (arith, more)) in
    let all =
    over_then d 0 (sheets ++ own) last both c.put_ratios.ensures (omega (arith, long, more, length-append sheets own))
    (omega (arith, rest)) in
    all ∙ over_whole d (sheets ++ own ++ last)
    (omega (arith, long, more, rest, length-append (sheets ++ own) last, length-append sheets own))
