use lib.ListN.{length-take}
use native.Mathlib.Omega.{arith}
use Rattle.program_changes.proofs.put_sentence.Goals as goal

pub put_bytes-requires : goal.put_bytes-requires
put_bytes-requires c = rw (c.front.ensures.0, length-take) (omega arith)

pub returns : goal.returns
returns c =
    let args = c.args in
    let placed = rw c.front.ensures.0 at c.put_bytes.ensures in
    (placed, omega (arith, placed.next, length-take args.size args.sentence.now))
