use Rattle.sheet_beside.proofs.Laws.{within}
use native.Mathlib.Omega.{arith}
use Rattle.sheet_beside.proofs.beside_from.Goals as goal

pub overflow_mul-result : goal.overflow_mul-result
overflow_mul-result c =
    let in-page = within c.args.kind c.args.a c.requires in
    rw c.beside_numbers.ensures (omega (arith, in-page.beside, in-page.page))

pub overflow_add-result : goal.overflow_add-result
overflow_add-result c =
    let in-page = within c.args.kind c.args.a c.requires in
    rw (c.beside_numbers.ensures, c.cells.ensures) (omega (arith, in-page.beside, in-page.page))

pub returns : goal.returns
returns c = rw (c.beside_numbers.ensures, c.cells.ensures)
