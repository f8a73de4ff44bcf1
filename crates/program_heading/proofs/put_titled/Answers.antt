-- `program_heading::put_titled`. Nothing, or ": " and the title.
use Rattle.program_heading.specs.Headings.{titled}
use Rattle.text.specs.Text.{ascii}
use Rattle.text.proofs.Laws.{placed_nothing, placed_after}
use borrow.Author.Tests.{eq-eqb, ne_eqb}
use native.Mathlib.Omega.{arith}
use Rattle.program_heading.proofs.put_titled.Goals as goal

pub returns-then-title-eq0 : goal.returns-then-title-eq0
unfolding titled
returns-then-title-eq0 c = (rw (eq-eqb _ _ c.if-title-eq0.true) (placed_nothing _ _), omega arith)

pub returns : goal.returns
unfolding titled ascii
returns c =
    let title = rw c.front.ensures.0 at c.put_bytes.ensures in (
      rw (ne_eqb _ _ c.if-title-eq0.false) (placed_after c.put_bytes-parted.ensures title (omega arith)),
      omega (arith, c.put_bytes.ensures.next, c.put_bytes-parted.ensures.next),
    )
