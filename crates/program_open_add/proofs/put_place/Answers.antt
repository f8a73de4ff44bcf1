use Rattle.text.proofs.Laws.{placed_after}
use Rattle.text.specs.Text.{ascii}
use Rattle.program_open_add.specs.Run.{place_text}
use native.Mathlib.Omega.{arith}
use Rattle.program_open_add.proofs.put_place.Goals as goal

pub returns : goal.returns
unfolding place_text ascii
returns c = placed_after c.put_numbered-end.ensures.placed c.put_byte.ensures (omega (arith, c.put_byte.ensures.next))
