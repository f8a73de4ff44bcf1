-- Acceptance puts each entry in its kind's range; what the kinds make of them are the movement's parts.
use Rattle.procedure.proofs.Reading.{is_movement}
use mathlib.Core.Path.{◌∙◌}
use Rattle.procedure.proofs.read_movement.Goals as goal

pub returns : goal.returns
returns c =
    is_movement _ _ _ (c.new.ensures ∙ c.movement_value.ensures.0) (c.new-2.ensures ∙ c.movement_value-2.ensures.0)
    (c.new-3.ensures ∙ c.movement_value-3.ensures.0) (c.new-4.ensures ∙ c.movement_value-4.ensures.0)
    (c.new-5.ensures ∙ c.movement_value-5.ensures.0) (c.new-6.ensures ∙ c.movement_value-6.ensures.0)
