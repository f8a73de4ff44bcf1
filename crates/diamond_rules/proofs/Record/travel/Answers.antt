use Rattle.diamond_rules.proofs.Laws.{record_length, travel_accepted}
use Rattle.kinds.proofs.Laws.{within}
use native.Mathlib.Omega.{arith}
use Rattle.diamond_rules.proofs.Record.travel.Goals as goal

pub bounds-self-190 : goal.bounds-self-190
bounds-self-190 c = omega (arith, record_length _ c.args.self.accepted)

pub new-requires : goal.new-requires
new-requires c = travel_accepted _ c.args.self.accepted

pub returns : goal.returns
returns c = (c.new.ensures, rw c.new.ensures (within _ _ (travel_accepted _ c.args.self.accepted)))
