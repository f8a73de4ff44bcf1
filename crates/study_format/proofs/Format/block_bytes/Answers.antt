-- `study_format::Format::block_bytes`. A block is smaller than the largest file.
use Rattle.study_format.proofs.Laws.{block_fits}
use native.Mathlib.Omega.{arith}
use Rattle.study_format.proofs.Format.block_bytes.Goals as goal

pub overflow_mul-result : goal.overflow_mul-result
overflow_mul-result c = omega (arith, block_fits c.args.self)
