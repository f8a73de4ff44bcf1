-- One of the two is too much already, then their sum is, or nothing.
use Rattle.text_times.proofs.Laws.{together_large, together_small}
use native.Mathlib.Omega.{arith}
use Rattle.text_times.proofs.together.Goals as goal

pub returns-then-seconds-part : goal.returns-then-seconds-part
returns-then-seconds-part c =
    let args = c.args in
    rw (together_large args.seconds args.part (omega arith)) (omega arith)

pub returns-then-seconds-ge-TOO_LARGE : goal.returns-then-seconds-ge-TOO_LARGE
returns-then-seconds-ge-TOO_LARGE c =
    let args = c.args in
    rw (together_large args.seconds args.part (omega arith)) (omega arith)

pub returns-then-part-ge-TOO_LARGE : goal.returns-then-part-ge-TOO_LARGE
returns-then-part-ge-TOO_LARGE c =
    let args = c.args in
    rw (together_large args.seconds args.part (omega arith)) (omega arith)

pub returns-then-time-ge-TOO_LARGE : goal.returns-then-time-ge-TOO_LARGE
returns-then-time-ge-TOO_LARGE c =
    let args = c.args in
    rw (together_small args.seconds args.part (omega arith)) (omega arith)

pub returns : goal.returns
returns c =
    let args = c.args in
    rw (together_small args.seconds args.part (omega arith)) (omega arith)
