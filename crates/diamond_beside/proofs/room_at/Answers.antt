use native.Mathlib.Omega.{arith}
use Rattle.diamond_beside.proofs.room_at.Goals as goal

pub overflow_mul-result : goal.overflow_mul-result
overflow_mul-result c = omega (arith, c.storage.ensures.1.most)
