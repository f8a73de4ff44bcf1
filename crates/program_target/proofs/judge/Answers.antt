-- `program_target::judge`. A case for each thing that can be found.
use Rattle.program_target.specs.Target.{target_text}
use Rattle.program_target.proofs.Laws.{found_there}
use Rattle.program_outcome.proofs.Laws.{stops_of, goes_on}
use Rattle.program_target.proofs.judge.Goals as goal

pub returns-in-Ok-None : goal.returns-in-Ok-None
unfolding target_text
returns-in-Ok-None c = rw (found_there c.args.found c.in-Ok-None.is (rw c.in-Ok-None.is at c.in-Ok-None.field-0-is)) (goes_on tt)

pub returns-in-Ok-Some : goal.returns-in-Ok-Some
unfolding target_text
returns-in-Ok-Some c =
    rw (found_there c.args.found c.in-Ok-Some.is (rw c.in-Ok-Some.is at c.in-Ok-Some.field-0-is)) (rw c.front.ensures.0 at c.judge_bytes.ensures)

pub returns-in-Err : goal.returns-in-Err
unfolding target_text
returns-in-Err c = rw c.in-Err.is (stops_of _ _ (rw c.from.ensures at c.say.ensures))
