use Rattle.icu.specs.Told.{told}
use mathlib.Core.Path.{◌∙◌, ap}
use Rattle.icu.proofs.icu_diamond.Goals as goal

pub returns : goal.returns
returns c = (c.tell.ensures ∙ ap told c.rate.ensures.value, c.rate.ensures.cells_after)
