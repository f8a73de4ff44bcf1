use Rattle.entries.proofs.Laws.{accepted_count, accepted_range}
use Rattle.kinds.specs.Kinds.{kind_at}
use Rattle.layout.specs.Entries.{cycle_entry}
use lib.Dec.{lit<}
use Rattle.procedure.proofs.read_cycle.Goals as goal

pub cycle_entry-requires : goal.cycle_entry-requires
cycle_entry-requires c = accepted_count _ c.requires

pub new-requires : goal.new-requires
unfolding kind_at
new-requires c = rw c.cycle_entry.ensures (accepted_range _ c.requires cycle_entry (lit< tt))
