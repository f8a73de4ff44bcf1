-- `program_open::take_source`. A case for each thing that can stand there.
use Rattle.program_target.proofs.Laws.{found_there}
use Rattle.program_open.specs.Opening.{study_in}
use Rattle.program_outcome.proofs.Laws.{stops_of}
use Rattle.program_open.proofs.take_source.Goals as goal

pub returns-in-Ok-Some : goal.returns-in-Ok-Some
unfolding study_in
returns-in-Ok-Some c =
    rw (found_there c.args.source c.in-Ok-Some.is (rw c.in-Ok-Some.is at c.in-Ok-Some.field-0-is)) (rw c.front.ensures.0 at c.take_bytes.ensures)

pub returns-in-Ok-None : goal.returns-in-Ok-None
returns-in-Ok-None c =
    rw (found_there c.args.source c.in-Ok-None.is (rw c.in-Ok-None.is at c.in-Ok-None.field-0-is)) (stops_of _ _ c.say_unopened.ensures)

pub returns-in-Err : goal.returns-in-Err
returns-in-Err c = rw c.in-Err.is (stops_of _ _ c.say.ensures)
