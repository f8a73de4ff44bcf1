use native.Mathlib.Omega.{arith}
use lib.ListN.{length-take}
use Rattle.program_page.proofs.put_made.Goals as goal

pub put_under-requires : goal.put_under-requires
put_under-requires g c = rw (c.front.ensures.0, length-take) (omega arith)

pub returns : goal.returns
returns g c = rw c.front.ensures.0 at c.put_under.ensures
