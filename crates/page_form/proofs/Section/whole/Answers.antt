use native.Mathlib.Omega.{arith}
use mathlib.Core.Path.{refl}
use Rattle.page_form.proofs.Sections.{few_cells, small_whole}
use Rattle.page_form.proofs.Section.whole.Goals as goal

pub overflow_add-result : goal.overflow_add-result
overflow_add-result c = omega (arith, few_cells c.args.kind)

pub returns : goal.returns
returns c =
    rw (c.last_from.ensures, c.end.ensures, c.rights.ensures.0)
    (refl, small_whole c.args.kind)
