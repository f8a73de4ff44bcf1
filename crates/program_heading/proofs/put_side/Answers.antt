-- `program_heading::put_side`. Which junction it is, the name past that, and the title if there is one.
use Rattle.program_heading.specs.Headings.{side_line}
use Rattle.text.proofs.Laws.{placed_three}
use native.Mathlib.Omega.{arith}
use Rattle.program_heading.proofs.put_side.Goals as goal

pub returns : goal.returns
unfolding side_line
returns c =
    let side = c.put_bytes-told.ensures in
    (placed_three side c.put_name-named.ensures.0 c.put_titled.ensures.0 (omega (arith, side.next)), omega (arith, side.next))
