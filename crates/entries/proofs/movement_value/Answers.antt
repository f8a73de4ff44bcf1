use Rattle.entries.proofs.Laws.{accepted_count, accepted_movement}
use Rattle.entries.proofs.movement_value.Goals as goal

pub movement_entry-requires : goal.movement_entry-requires
movement_entry-requires c = (accepted_count _ c.requires.0, c.requires.1, c.requires.2)

pub returns : goal.returns
returns c =
    (c.movement_entry.ensures, rw c.movement_entry.ensures (accepted_movement _ c.requires.0 _ _ c.requires.1 c.requires.2))
