-- A wrong number of arguments; then the file, read or not.
use Rattle.program_amend.proofs.Laws.{work_use, work_file}
use Rattle.program_outcome.proofs.Laws.{left_saying}
use Rattle.text.proofs.Laws.{placed_nothing}
use mathlib.Core.Path.{sym, ◌∙◌}
use Rattle.program_amend.proofs.work.Goals as goal

pub returns-then-not-takes : goal.returns-then-not-takes
returns-then-not-takes c =
    let wrong = sym c.takes.ensures ∙ c.if-not-takes.true in
    rw (work_use _ _ _ wrong, c.said.ensures) record {
      left = left_saying c.put_use.ensures;
      placed = placed_nothing _ 0;
    }

pub returns-in_default : goal.returns-in_default
returns-in_default c =
    let right = sym c.takes.ensures ∙ c.if-not-takes.false in
    rw (work_file _ _ _ right, c.in_default.is, c.said-in_default.ensures)
    record {
      left = left_saying (rw c.word-name.ensures at c.say_unread.ensures);
      placed = placed_nothing _ 0;
    }

pub amend_study-requires : goal.amend_study-requires
amend_study-requires c =
    sym c.takes.ensures ∙ c.if-not-takes.false

pub returns : goal.returns
returns c =
    let right = sym c.takes.ensures ∙ c.if-not-takes.false in
    rw (work_file _ _ _ right, c.in-Some.is) (rw c.front-file.ensures.0 at c.amend_study.ensures)
