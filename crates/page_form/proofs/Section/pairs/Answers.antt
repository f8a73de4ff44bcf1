use mathlib.Core.Path.{refl}
use Rattle.page_form.proofs.Sections.{small_pairs}
use Rattle.page_form.proofs.Section.pairs.Goals as goal

pub returns : goal.returns
returns c =
    rw (c.pair_cells.ensures, c.pairs_from.ensures, c.end.ensures, c.lines.ensures.0)
    (refl, small_pairs c.args.kind)
