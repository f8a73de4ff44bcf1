-- `program_record::take_file`. A file that could not be read, and its bytes.
use Rattle.program_record.specs.Arguments.{file_says}
use Rattle.program_outcome.proofs.Laws.{stops_of}
use Rattle.program_record.proofs.take_file.Goals as goal

pub returns-in_default : goal.returns-in_default
unfolding file_says
returns-in_default c = rw c.in_default.is (stops_of _ _ c.say.ensures)

pub returns : goal.returns
unfolding file_says
returns c =
    rw c.in-Some.is (rw c.front.ensures.0 at c.take_bytes.ensures)
