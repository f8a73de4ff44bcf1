use Rattle.layout.specs.Entries.{approach_count}
use Rattle.layout.proofs.Laws.{few}
use native.Mathlib.Nat.{mul-le-mul}
use native.Mathlib.Omega.{arith}
use Rattle.layout.proofs.Worksheet.lines_of.Goals as goal

pub overflow_mul-result : goal.overflow_mul-result
overflow_mul-result c =
    rw c.lines.ensures (omega (arith, mul-le-mul {m₁ = c.args.approach} {m₂ = approach_count} (few c.args.self).lines (omega arith)))

pub overflow_add-result : goal.overflow_add-result
overflow_add-result c =
    rw c.lines.ensures (omega (arith, mul-le-mul {m₁ = c.args.approach} {m₂ = approach_count} (few c.args.self).lines (omega arith)))

pub returns : goal.returns
returns c = rw c.lines.ensures
