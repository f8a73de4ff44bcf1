use borrow.Author.Tests.{lt-ltb, le-ltb}
use Rattle.study_writer.proofs.check_room.Goals as goal

pub returns-then-room-file_bytes : goal.returns-then-room-file_bytes
returns-then-room-file_bytes c = rw (← c.file_bytes.ensures, lt-ltb _ _ c.if-room-file_bytes.true) c.refused.ensures

pub returns : goal.returns
returns c = rw (← c.file_bytes.ensures, le-ltb _ _ c.if-room-file_bytes.false)
