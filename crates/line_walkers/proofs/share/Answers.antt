use native.Mathlib.Omega.{arith}
use native.Mathlib.Nat.{mul-le-mul}
use Prim.Native.Nat.{◌*◌, ◌≤◌}
use Rattle.units.proofs.Laws.{up_most}
use Rattle.line_bounds.specs.Bounds.{most_held}
use Rattle.line_walkers.proofs.share.Goals.{Start}
use Rattle.line_walkers.proofs.share.Goals as goal

within : (s : Start) → s.args.part.0 * s.args.some.0 ≤ most_held * s.args.volume.0
within s = mul-le-mul s.requires.0 s.requires.1

pub overflow_mul-part : goal.overflow_mul-part
overflow_mul-part c = omega (arith, within (goal.at.overflow_mul-part c).Start)

pub divide_up-requires : goal.divide_up-requires
divide_up-requires c = omega (arith, within (goal.at.divide_up-requires c).Start)

pub overflow_cast-result : goal.overflow_cast-result
overflow_cast-result c = omega (arith, c.divide_up.ensures, up_most most_held _ _ (within (goal.at.overflow_cast-result c).Start))
