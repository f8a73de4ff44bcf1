use Rattle.procedure.proofs.Fair.{fair_cycle}
use Rattle.diamond_storage.proofs.fits_at.Goals as goal

pub is_below-requires : goal.is_below-requires
is_below-requires c =
    let west = c.west.ensures in
    (c.stored_at.ensures.1, rw c.read_cycle-cycle.ensures (fair_cycle _ west.1), c.storage.ensures.1)
