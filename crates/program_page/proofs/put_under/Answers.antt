use Rattle.text.proofs.Laws.{placed_after}
use native.Mathlib.Omega.{arith}
use Rattle.program_page.proofs.put_under.Goals as goal

pub returns : goal.returns
returns c =
    placed_after (rw c.text.ensures.0 at c.put_bytes-at.ensures) c.put_bytes.ensures (omega (arith, c.put_bytes.ensures.next))
