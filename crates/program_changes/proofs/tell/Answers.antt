use Rattle.text.proofs.Laws.{placed_after}
use native.Mathlib.Omega.{arith}
use Rattle.program_changes.proofs.tell.Goals as goal

pub returns : goal.returns
returns c = (placed_after c.put_heading-headed.ensures.0 c.put_why.ensures.0 (omega arith), omega arith)
