-- A file that was not read, and one that was.
use Rattle.program_outcome.proofs.Laws.{left_saying}
use Rattle.text.proofs.Laws.{placed_nothing}
use Rattle.program_convert.specs.Run.{convert_run}
use Rattle.program_convert.proofs.run.Goals as goal

pub returns-in_default : goal.returns-in_default
unfolding convert_run
returns-in_default c =
    rw (c.in_default.is, c.said.ensures) record {
      left = left_saying (rw c.word-name.ensures at c.say.ensures);
      placed = placed_nothing _ 0;
    }

pub returns : goal.returns
unfolding convert_run
returns c =
    rw c.in-Some.is (rw (c.front.ensures.0, c.word-name.ensures) at c.convert_file.ensures)
