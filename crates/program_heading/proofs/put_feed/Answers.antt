use Rattle.program_heading.specs.Headings.{feed}
use Rattle.text.proofs.Laws.{placed_nothing}
use native.Mathlib.Omega.{arith}
use Rattle.program_heading.proofs.put_feed.Goals as goal

pub returns-then-spot : goal.returns-then-spot
unfolding feed
returns-then-spot c =
    (rw c.if-spot.true c.put_byte.ensures, omega (arith, c.put_byte.ensures.next))

pub returns : goal.returns
unfolding feed
returns c = (rw c.if-spot.false (placed_nothing _ _), omega arith)
