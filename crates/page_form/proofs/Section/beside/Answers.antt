use mathlib.Core.Path.{refl}
use Rattle.page_form.proofs.Sections.{small_beside}
use Rattle.page_form.proofs.Section.beside.Goals as goal

pub returns : goal.returns
returns c =
    rw (c.beside_numbers.ensures, c.cells.ensures, c.end.ensures, c.whole.ensures.0)
    (refl, small_beside c.args.kind)
