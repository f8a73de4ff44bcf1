use Rattle.icu.specs.Told.{told}
use mathlib.Core.Path.{◌∙◌, ap}
use Rattle.icu.proofs.icu_open_read.Goals as goal

pub returns : goal.returns
returns c = (c.tell.ensures ∙ ap told c.read.ensures.value, c.read.ensures.sheet_after)
