-- `program_outcome::put_opening`. The argument as far as it is shown, and the colon.
use Rattle.text.proofs.Laws.{placed_after}
use Rattle.text.specs.Text.{ascii}
use Rattle.program_outcome.specs.Outcome.{opening}
use native.Mathlib.Omega.{arith}
use Rattle.program_outcome.proofs.put_opening.Goals as goal

pub returns : goal.returns
unfolding opening ascii
returns c =
    let shown = rw c.front.ensures.0 at c.put_bytes-shown.ensures in
    (placed_after shown c.put_bytes.ensures (omega arith), omega arith)
