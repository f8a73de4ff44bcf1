use Rattle.sheet_totals.proofs.Letters.{passed_few}
use Rattle.procedure.specs.Pairs.{letter_ends}
use native.Mathlib.Omega.{arith}
use Rattle.sheet_totals.proofs.letter_of.Goals as goal

pub overflow_cast-result : goal.overflow_cast-result
overflow_cast-result c = rw c.passed.ensures (omega (arith, passed_few letter_ends c.args.icu))

pub returns : goal.returns
returns c = c.passed.ensures
