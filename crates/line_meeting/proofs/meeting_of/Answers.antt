use Rattle.procedure.specs.Lines.{allowed_b}
use Rattle.line_meeting.proofs.meeting_of.Goals as goal

pub left_share-requires : goal.left_share-requires
left_share-requires c = c.requires

pub returns : goal.returns
unfolding allowed_b
returns c = rw (c.left_share.ensures, c.is_a_allowed.ensures, c.requires.1)
