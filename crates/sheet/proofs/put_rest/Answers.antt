-- The pairs and the last cells are put one after the other, which is putting them joined.
use Rattle.layout.specs.Sheet.{pairs_from}
use Rattle.lists.proofs.Laws.{over_then}
use Rattle.sheet_pairs.specs.Cells.{pair_in}
use Rattle.sheet.proofs.Laws.{length-pair_in}
use native.Mathlib.Omega.{arith}
use lib.ListN.{length-append}
use mathlib.Core.List.{◌++◌}
use Rattle.sheet.proofs.put_rest.Goals as goal

pub put-requires : goal.put-requires
put-requires c =
    omega (arith, c.last_from.ensures, c.all-1.given, c.requires)

pub returns : goal.returns
returns c =
    let a = c.args in
    let k = a.kind in
    let end = c.last_from.ensures in
    over_then a.all.now (pairs_from k) (pair_in k a.along ++ pair_in k a.across) a.last c.put_pairs.ensures c.put.ensures
    (omega (arith, end, length-pair_in k a.along, length-pair_in k a.across, length-append (pair_in k a.along) (pair_in k a.across)))
    (omega (arith, end, c.requires, c.well_formed.1.1.1.1.0))
