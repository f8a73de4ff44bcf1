use Rattle.icu.specs.Told.{told}
use mathlib.Core.Path.{◌∙◌, ap}
use Rattle.icu.proofs.icu_point_amend.Goals as goal

pub returns : goal.returns
returns c = (c.tell.ensures ∙ ap told c.amend.ensures.value, c.amend.ensures.sheet_after)
