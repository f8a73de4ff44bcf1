use Rattle.text.proofs.Laws.{placed_after}
use Rattle.program_outcome.specs.Outcome.{named}
use native.Mathlib.Omega.{arith}
use Rattle.program_site.proofs.say_sites.Goals as goal

pub returns : goal.returns
unfolding named
returns c = placed_after c.put_opening-at.ensures.0 c.put_sites.ensures.0 (omega arith)
