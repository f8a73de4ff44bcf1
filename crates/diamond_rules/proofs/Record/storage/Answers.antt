use Rattle.diamond_rules.proofs.Laws.{record_length, storage_accepted}
use Rattle.kinds.proofs.Laws.{within}
use native.Mathlib.Omega.{arith}
use Rattle.diamond_rules.proofs.Record.storage.Goals as goal

pub bounds-self-place : goal.bounds-self-place
bounds-self-place c = omega (arith, record_length _ c.args.self.accepted)

pub new-requires : goal.new-requires
new-requires c = storage_accepted _ c.args.self.accepted _ c.requires

pub returns : goal.returns
returns c = (c.new.ensures, rw c.new.ensures (within _ _ (storage_accepted _ c.args.self.accepted _ c.requires)))
