use Rattle.kinds.proofs.Laws.{within}
use mathlib.Core.Path.{◌∙◌}
use Rattle.diamond_storage.proofs.left_of.Goals as goal

pub returns : goal.returns
returns c =
    let movement = c.movement_value.ensures in
    (c.new.ensures ∙ movement.0, rw c.new.ensures (within _ _ movement.1))
