-- Both numbers are small, so the sum is one of 32 bits.
use native.Mathlib.Omega.{arith}
use Rattle.diamond_judging.proofs.count_on.Goals as goal

pub overflow_add-result : goal.overflow_add-result
overflow_add-result c =
    let small = rw c.in-Refused.is at c.requires.1 in
    omega arith

pub returns-in-Accepted : goal.returns-in-Accepted
returns-in-Accepted c = rw c.in-Accepted.is

pub returns-in-Refused : goal.returns-in-Refused
returns-in-Refused c = rw c.in-Refused.is
