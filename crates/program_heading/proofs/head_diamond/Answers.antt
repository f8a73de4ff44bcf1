-- `program_heading::head_diamond`. The west's line, the east's, and the lines' ends.
use Rattle.program_heading.specs.Headings.{diamond_heading}
use Rattle.text.specs.Text.{ascii}
use Rattle.text.proofs.Laws.{placed_three}
use native.Mathlib.Omega.{arith}
use Rattle.program_heading.proofs.head_diamond.Goals as goal

pub returns : goal.returns
unfolding diamond_heading ascii
returns c =
    let ends = c.put_bytes.ensures in
    (placed_three c.put_side-first.ensures.0 c.put_side-both.ensures.0 ends (omega arith), omega (arith, ends.next))
