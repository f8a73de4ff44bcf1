use Rattle.program_heading.specs.Headings.{worksheet_title}
use Rattle.text.specs.Text.{ascii}
use Rattle.text.proofs.Laws.{placed_nothing}
use native.Mathlib.Omega.{arith}
use Rattle.program_heading.proofs.put_worksheet.Goals as goal

pub returns-in_default : goal.returns-in_default
unfolding worksheet_title
returns-in_default c = (rw c.in_default.is (placed_nothing _ _), omega arith)

pub returns : goal.returns
unfolding worksheet_title ascii
returns c =
    (rw c.in-Point.is c.put_bytes.ensures, omega (arith, c.put_bytes.ensures.next))
