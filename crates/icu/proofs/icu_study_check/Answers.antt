use Rattle.icu.specs.Told.{told}
use mathlib.Core.Path.{◌∙◌, ap}
use Rattle.icu.proofs.icu_study_check.Goals as goal

pub returns : goal.returns
returns c = c.tell.ensures ∙ ap told c.check.ensures
