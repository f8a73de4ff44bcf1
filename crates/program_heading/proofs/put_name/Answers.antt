use native.Mathlib.Omega.{arith}
use Rattle.program_heading.proofs.put_name.Goals as goal

pub returns : goal.returns
returns c =
    (rw c.front.ensures.0 at c.put_shown.ensures.0, omega (arith, c.put_shown.ensures.1, c.front.ensures.1))
