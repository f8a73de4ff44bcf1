use Rattle.layout.proofs.Laws.{few}
use Rattle.layout.specs.Sheet.{pairs_from}
use Rattle.lists.proofs.Laws.{over_then}
use Rattle.sheet_pairs.specs.Cells.{pair_in}
use Rattle.sheet.proofs.Laws.{length-pair_in}
use native.Mathlib.Omega.{arith}
use Rattle.sheet.proofs.put_pairs.Goals as goal

pub put_pair-requires : goal.put_pair-requires
put_pair-requires c = omega (arith, c.pairs_from-from.ensures, c.requires)

pub overflow_add-from : goal.overflow_add-from
overflow_add-from c =
    let k = c.args.kind in
    omega (arith, c.pair_cells.ensures, c.pairs_from-from.ensures, (few k).lines, (few k).pair)

pub put_pair-requires-2 : goal.put_pair-requires-2
put_pair-requires-2 c =
    omega (arith, c.pair_cells.ensures, c.pairs_from-from.ensures, c.requires)

pub returns : goal.returns
returns c =
    let a = c.args in
    let k = a.kind in
    let at = c.pairs_from-from.ensures in
    let wide = c.pair_cells.ensures in
    let one = length-pair_in k a.along in
    let other = length-pair_in k a.across in
    over_then a.all.now (pairs_from k) (pair_in k a.along) (pair_in k a.across) (rw at at c.put_pair.ensures) c.put_pair-2.ensures
    (omega (arith, at, wide, one)) (omega (arith, at, wide, one, other, c.requires))
