use native.Mathlib.Nat.{le_trans}
use Rattle.study.proofs.count.Goals as goal

pub returns : goal.returns
returns c =
    let format = c.format_of.ensures in
    (rw (← format.0) c.count.ensures.0, le_trans c.count.ensures.1 format.1)
