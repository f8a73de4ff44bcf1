-- `program_heading::put_site_title`. The name, and the site's number past it.
use Rattle.program_heading.specs.Headings.{site_title}
use Rattle.text.specs.Text.{ascii}
use Rattle.text.proofs.Laws.{placed_after}
use native.Mathlib.Omega.{arith}
use Rattle.program_heading.proofs.put_site_title.Goals as goal

pub returns : goal.returns
unfolding site_title ascii
returns c =
    (placed_after c.put_name-named.ensures.0 c.put_numbered.ensures.placed (omega arith), omega arith)
