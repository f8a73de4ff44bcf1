use Rattle.procedure.specs.Approach.{read_approach}
use Rattle.sheet_street.proofs.shares.Goals as goal

pub returns : goal.returns
unfolding read_approach
returns c = rw c.approach_entry.ensures
