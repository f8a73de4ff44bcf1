use mathlib.Core.Path.{refl}
use Rattle.program_outcome.proofs.Laws.{stops_of}
use Rattle.program_make.specs.Make.{text_says, text_adds}
use Rattle.program_make.proofs.add.Goals as goal

pub returns-in_default : goal.returns-in_default
unfolding text_says text_adds
returns-in_default c =
    rw c.in_default.is record { says = stops_of _ _ c.say.ensures; all_after = refl }

pub returns : goal.returns
unfolding text_says text_adds
returns c =
    rw c.in-Some.is (rw c.front.ensures.0 at c.add_text.ensures)
