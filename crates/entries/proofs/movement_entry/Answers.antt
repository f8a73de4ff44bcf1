use Rattle.entries.specs.Layout.{movement_entry}
use mathlib.Core.Path.{refl}
use Rattle.entries.proofs.movement_entry.Goals as goal

pub returns : goal.returns
unfolding movement_entry
returns c = refl
