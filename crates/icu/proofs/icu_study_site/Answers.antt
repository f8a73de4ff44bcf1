use Rattle.icu.specs.Told.{told}
use mathlib.Core.Path.{◌∙◌, ap}
use Rattle.icu.proofs.icu_study_site.Goals as goal

pub returns : goal.returns
returns c = (c.tell.ensures ∙ ap told c.site_entries.ensures.value, c.site_entries.ensures.entries_after)
