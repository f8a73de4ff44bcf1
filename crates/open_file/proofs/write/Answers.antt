-- `open_file::write`. The opening, the owners and the blocks, each past what stands before it.
use Rattle.open_file.proofs.Laws.{written}
use native.Mathlib.Omega.{arith}
use Rattle.open_file.proofs.write.Goals as goal

pub returns : goal.returns
returns c =
    written _ _ (omega arith) (omega arith) (omega arith) c.put_bytes.ensures.is c.write_all.ensures c.write_all-2.ensures
