use mathlib.Core.Path.{refl}
use Rattle.page_form.proofs.Sections.{small_rights}
use Rattle.page_form.proofs.Section.rights.Goals as goal

pub returns : goal.returns
returns c =
    rw (c.last_from.ensures, c.end.ensures, c.pairs.ensures.0)
    (refl, small_rights c.args.kind)
