-- It is the definition's next step; neither it nor the product on the way is too large, since no term is above the whole.
use Rattle.line_decay.proofs.Laws.{next_term, term_most}
use native.Mathlib.Nat.{mul-le-mul}
use native.Mathlib.Omega.{arith}
use Prim.Native.Nat.{◌+◌, ◌≤◌}
use Rattle.line_decay.proofs.next_term.Goals as goal

pub overflow_mul-result : goal.overflow_mul-result
overflow_mul-result c =
    let whole : c.args.last ≤ 1_000_000_000 = omega (arith, term_most c.args.r c.args.k c.requires.0) in
    let part : c.args.r ≤ 7200 = omega arith in
    omega (arith, mul-le-mul whole part)

pub returns : goal.returns
returns c = rw (next_term, ← c.requires.2)

pub overflow_cast-result-4 : goal.overflow_cast-result-4
overflow_cast-result-4 c = omega (arith, returns c, term_most c.args.r (c.args.k + 1) c.requires.0)
