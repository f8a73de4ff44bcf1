use Rattle.icu.specs.Told.{told}
use mathlib.Core.Path.{◌∙◌, ap}
use Rattle.icu.proofs.icu_study_list.Goals as goal

pub returns : goal.returns
returns c =
    ((c.tell.ensures ∙ ap told c.list.ensures.value, c.list.ensures.out_after), c.list.ensures.written_after)
