-- `diamond_beside::volume_at`. The volume and the cycle are the record's, so their product fits.
use Rattle.diamond_storage.proofs.Laws.{mean_most}
use Rattle.procedure.specs.Ranges.{FairCycle}
use Rattle.procedure.proofs.Fair.{fair_cycle}
use native.Mathlib.Omega.{arith}
use Rattle.diamond_beside.proofs.volume_at.Goals as goal

pub overflow_mul-result : goal.overflow_mul-result
overflow_mul-result c =
    let cycle : FairCycle c.read_cycle-cycle.result.0 = rw c.read_cycle-cycle.ensures (fair_cycle _ c.west.ensures.1) in
    omega (arith, mean_most _ _ c.stored_at-volume.ensures.1 cycle)

pub returns : goal.returns
returns c = rw (c.stored_at-volume.ensures.0, c.read_cycle-cycle.ensures, c.west.ensures.0)
