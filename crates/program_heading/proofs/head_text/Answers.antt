-- `program_heading::head_text`. Which worksheet it is, the name, the title if there is one, and the lines' ends.
use Rattle.program_heading.specs.Headings.{text_heading}
use Rattle.text.specs.Text.{ascii}
use Rattle.text.proofs.Laws.{placed_after, placed_three}
use native.Mathlib.Omega.{arith}
use Rattle.program_heading.proofs.head_text.Goals as goal

pub returns : goal.returns
unfolding text_heading ascii
returns c =
    let ends = c.put_bytes.ensures in
    let told = placed_three c.put_worksheet-begun.ensures.0 c.put_name-named.ensures.0 c.put_titled-told.ensures.0 (omega arith) in
    (placed_after told ends (omega arith), omega (arith, ends.next))
