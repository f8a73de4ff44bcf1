use Rattle.icu.specs.Told.{told}
use mathlib.Core.Path.{◌∙◌, ap}
use Rattle.icu.proofs.icu_open_add.Goals as goal

pub returns : goal.returns
returns c =
    let a = c.add.ensures in
    ((c.tell.ensures ∙ ap told a.value, a.blocks_after), a.place_after)
