use Rattle.icu.specs.Told.{told}
use mathlib.Core.Path.{◌∙◌, ap}
use Rattle.icu.proofs.icu_point_fill.Goals as goal

pub returns : goal.returns
returns c = (c.tell.ensures ∙ ap told c.fill.ensures.value, c.fill.ensures.sheet_after)
