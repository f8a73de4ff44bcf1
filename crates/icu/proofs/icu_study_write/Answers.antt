use Rattle.icu.specs.Told.{told}
use mathlib.Core.Path.{◌∙◌, ap}
use Rattle.icu.proofs.icu_study_write.Goals as goal

pub returns : goal.returns
returns c = (c.tell.ensures ∙ ap told c.write.ensures.value, c.write.ensures.out_after)
