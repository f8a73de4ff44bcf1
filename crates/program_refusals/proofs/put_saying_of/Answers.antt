use lib.ListN.{length-take}
use native.Mathlib.Omega.{arith}
use Rattle.program_refusals.proofs.put_saying_of.Goals as goal

pub put_named-requires : goal.put_named-requires
put_named-requires c = rw (c.front.ensures.0, length-take) (omega arith)

pub returns : goal.returns
returns c = rw c.front.ensures.0 at c.put_named.ensures
