use Rattle.entries.specs.Layout.{approach_entry}
use mathlib.Core.Path.{refl}
use Rattle.entries.proofs.approach_entry.Goals as goal

pub returns : goal.returns
unfolding approach_entry
returns c = refl
