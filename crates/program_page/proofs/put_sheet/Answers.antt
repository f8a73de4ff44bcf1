use Rattle.layout.proofs.Laws.{few}
use Rattle.program_outcome.proofs.Laws.{placed_front}
use native.Mathlib.Omega.{arith}
use Rattle.program_page.proofs.put_sheet.Goals as goal

pub print_front-size-requires : goal.print_front-size-requires
print_front-size-requires c =
    let small = few c.args.kind in
    omega (arith, small.cells, small.beside)

pub returns : goal.returns
returns c = rw (placed_front c.print_front-size.ensures) at c.put_made.ensures
