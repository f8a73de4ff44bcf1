use Rattle.units.specs.Unit.{whole}
use Rattle.units.proofs.Laws.{up_most}
use Prim.Native.Nat.{◌*◌}
use native.Mathlib.Omega.{arith}
use Rattle.line_left_lane.proofs.share_of_lefts.Goals as goal

pub returns-then-lefts-eq0 : goal.returns-then-lefts-eq0
returns-then-lefts-eq0 c =
    let x = c.args in
    omega (arith, up_most 0 (whole * x.lefts.0) x.lane.0 (omega arith))
