-- A single approach folds its lefts and has some, so the divisor is not 0; any other has no share.
use native.Mathlib.Omega.{arith}
use Prim.Native.Nat.{◌<◌}
use mathlib.Core.Bool.{true, false}
use mathlib.Core.Path.{◌≡◌}
use Rattle.kinds.specs.declared.Group.TheVariants.{Left}
use Rattle.procedure.specs.Approach.{v}
use Rattle.procedure.specs.Lines.{b, single, left_share}
use Rattle.line_bounds.proofs.Flows.{parted, volumes}
use Rattle.line_bounds.proofs.LeftLane.{single_folds}
use Rattle.line_meeting.proofs.left_share.Goals.{Then-is_single}
use Rattle.line_meeting.proofs.left_share.Goals as goal

alone : (d : Then-is_single) → single d.args.o ≡ true
alone d = rw (← d.is_single.ensures) d.if-is_single.true

folds : (d : Then-is_single) → (b d.args.o ≡ v d.args.o Left) × (0 < v d.args.o Left)
folds d = single_folds d.args.o (alone d)

pub overflow_mul-result : goal.overflow_mul-result
overflow_mul-result c =
    let counted = volumes c.args.o c.requires.0 in
    rw c.requires.1 (omega arith)

pub nonzero_div-result : goal.nonzero_div-result
nonzero_div-result c =
    let lefts = folds (goal.at.nonzero_div-result c).Then-is_single in
    rw c.requires.1 (omega (arith, lefts.0, lefts.1, (parted c.args.o).through))

pub returns-then-is_single : goal.returns-then-is_single
unfolding left_share
returns-then-is_single c =
    rw (alone (goal.at.returns-then-is_single c).Then-is_single, c.requires.1, (folds (goal.at.returns-then-is_single c).Then-is_single).0)

pub returns : goal.returns
unfolding left_share
returns c =
    let other : single c.args.o ≡ false = rw (← c.is_single.ensures) c.if-is_single.false in
    rw other
