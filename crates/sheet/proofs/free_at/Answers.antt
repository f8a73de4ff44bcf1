use Rattle.procedure.specs.Approach.{read_approach}
use mathlib.Core.Path.{◌∙◌}
use Rattle.sheet.proofs.free_at.Goals as goal

pub returns : goal.returns
unfolding read_approach
returns c = c.new.ensures ∙ c.approach_value.ensures.0
