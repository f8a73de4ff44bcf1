use Rattle.icu.specs.Told.{told}
use mathlib.Core.Path.{◌∙◌, ap}
use Rattle.icu.proofs.icu_point_start.Goals as goal

pub returns : goal.returns
returns c = (c.tell.ensures ∙ ap told c.start.ensures.value, c.start.ensures.entries_after)
