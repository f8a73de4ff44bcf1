-- `program_page::print_front`. The front is as long as the numbers that a page shows.
use Rattle.layout.specs.Sheet.{page_count}
use Rattle.layout.proofs.Laws.{few}
use lib.Seq.{length-take-le}
use mathlib.Core.Path.{sym}
use native.Mathlib.Omega.{arith}
use Rattle.program_page.proofs.print_front.Goals as goal

pub overflow_add-count : goal.overflow_add-count
overflow_add-count c =
    let small = few c.args.kind in
    rw (c.beside_numbers.ensures, c.cells.ensures) (omega (arith, small.cells, small.beside))

pub slice_bounds-print-end : goal.slice_bounds-print-end
slice_bounds-print-end c =
    rw (c.beside_numbers.ensures, c.cells.ensures)
    (sym (length-take-le (page_count c.args.kind) c.args.area.now c.requires))

pub returns : goal.returns
returns c =
    rw (c.beside_numbers.ensures, c.cells.ensures) at c.print.ensures
