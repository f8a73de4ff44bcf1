use lib.ListN.{length-take}
use native.Mathlib.Omega.{arith}
use Rattle.program_refusals.proofs.put_saying.Goals as goal

pub put_bytes-requires : goal.put_bytes-requires
put_bytes-requires c = rw (c.front.ensures.0, length-take) (omega arith)

pub returns : goal.returns
returns c = rw c.front.ensures.0 at c.put_bytes.ensures
