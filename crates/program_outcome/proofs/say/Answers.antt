use Rattle.text.proofs.Laws.{placed_after}
use Rattle.program_outcome.specs.Outcome.{named}
use native.Mathlib.Omega.{arith}
use Rattle.program_outcome.proofs.say.Goals as goal

pub returns : goal.returns
unfolding named
returns c = placed_after c.put_opening-at.ensures.0 c.put_remark.ensures.0 (omega arith)
