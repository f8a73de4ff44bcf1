-- `program_study::show`. A file that was not read, and the file.
use Rattle.program_study.specs.Run.{show_run}
use Rattle.program_outcome.proofs.Laws.{left_saying}
use Rattle.program_study.proofs.show.Goals as goal

pub returns-in_default : goal.returns-in_default
unfolding show_run
returns-in_default c =
    rw (c.in_default.is, c.said.ensures) (left_saying (rw c.word-name.ensures at c.say.ensures))

pub returns : goal.returns
unfolding show_run
returns c =
    rw c.in-Some.is (rw (c.word-name.ensures, c.word.ensures, c.front-file.ensures.0) at c.show_site.ensures)
