-- `program_heading::head_site`. What stands before the name, whose page it is, the number of sites, and the lines' ends.
use Rattle.program_heading.specs.Headings.{site_heading}
use Rattle.text.specs.Text.{ascii}
use Rattle.text.proofs.Laws.{placed_after, placed_three}
use native.Mathlib.Omega.{arith}
use Rattle.program_heading.proofs.head_site.Goals as goal

pub returns : goal.returns
unfolding site_heading ascii
returns c =
    let ends = c.put_bytes.ensures in
    let told = placed_three c.put_begin-begun.ensures.0 c.put_site_title-told.ensures.0 c.put_numbered-counted.ensures.placed (omega arith) in
    (placed_after told ends (omega arith), omega (arith, ends.next))
