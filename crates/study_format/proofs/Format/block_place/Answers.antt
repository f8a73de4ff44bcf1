-- `study_format::Format::block_place`. The sums fit, and the place is the definition's.
use Rattle.study_format.proofs.Laws.{block_fits, sums_fit}
use native.Mathlib.Omega.{arith}
use Rattle.study_format.proofs.Format.block_place.Goals as goal

pub overflow_mul-result-2 : goal.overflow_mul-result-2
overflow_mul-result-2 c = omega (arith, block_fits c.args.self)

pub overflow_mul-result-3 : goal.overflow_mul-result-3
overflow_mul-result-3 c = omega (arith, sums_fit c.args.self _ _ c.requires.0 c.requires.1)

pub overflow_add-result-2 : goal.overflow_add-result-2
overflow_add-result-2 c = omega (arith, sums_fit c.args.self _ _ c.requires.0 c.requires.1)
