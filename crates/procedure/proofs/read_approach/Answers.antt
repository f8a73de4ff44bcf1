-- As a movement is read, after its three.
use Rattle.procedure.proofs.Reading.{is_approach}
use mathlib.Core.Path.{◌∙◌}
use lib.Dec.{lit<}
use Rattle.procedure.proofs.read_approach.Goals as goal

pub approach_value-requires-5 : goal.approach_value-requires-5
approach_value-requires-5 c =
    (c.requires.0, c.requires.1, lit< tt)

pub new-requires-5 : goal.new-requires-5
new-requires-5 c = c.approach_value-5.ensures.1

pub returns : goal.returns
returns c =
    is_approach _ _ _ c.read_movement-left.ensures c.read_movement-through.ensures c.read_movement-right.ensures
    (c.new.ensures ∙ c.approach_value.ensures.0) (c.new-2.ensures ∙ c.approach_value-2.ensures.0)
    (c.new-3.ensures ∙ c.approach_value-3.ensures.0) (c.new-4.ensures ∙ c.approach_value-4.ensures.0)
    (c.new-5.ensures ∙ c.approach_value-5.ensures.0)
