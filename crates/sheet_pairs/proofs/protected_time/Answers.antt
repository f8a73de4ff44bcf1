use Prim.Native.Nat.{◌+◌}
use Rattle.line_stages.specs.Stages.{ms}
use Rattle.line_bounds.proofs.Order.{larger}
use Rattle.sheet_pairs.proofs.protected_time.Goals as goal

pub returns : goal.returns
returns c =
    let x = c.args.x in
    let y = c.args.y in
    rw c.if-shared.false
    (larger (ms (x.adjustedleft.0 + y.adjustedthrough.0)) (ms (y.adjustedleft.0 + x.adjustedthrough.0)) c.max.ensures)
