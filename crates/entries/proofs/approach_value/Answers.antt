use Rattle.entries.proofs.Laws.{accepted_count, accepted_approach}
use Rattle.entries.proofs.approach_value.Goals as goal

pub approach_entry-requires : goal.approach_entry-requires
approach_entry-requires c = (accepted_count _ c.requires.0, c.requires.1, c.requires.2)

pub returns : goal.returns
returns c =
    (c.approach_entry.ensures, rw c.approach_entry.ensures (accepted_approach _ c.requires.0 _ _ c.requires.1 c.requires.2))
