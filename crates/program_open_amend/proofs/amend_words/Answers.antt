-- `program_open_amend::amend_words`. An entry and its value are asked for, or a word is wrong, which is said.
use Rattle.program_open_amend.specs.Run.{change_in, wrong_says}
use Rattle.program_outcome.proofs.Laws.{left_saying}
use Rattle.text.proofs.Laws.{placed_nothing}
use mathlib.Core.Path.{sym, ◌∙◌}
use Rattle.program_open_amend.proofs.amend_words.Goals as goal

pub returns-in-Ok : goal.returns-in-Ok
unfolding change_in
returns-in-Ok c =
    let is = rw (c.word.ensures, c.word-2.ensures, c.word-3.ensures) at (sym c.asked.ensures.value ∙ c.in-Ok.is) in
    rw is c.amend_site.ensures

pub returns-in-Err : goal.returns-in-Err
unfolding change_in wrong_says
returns-in-Err c =
    let is = rw (c.word.ensures, c.word-2.ensures, c.word-3.ensures) at (sym c.asked.ensures.value ∙ c.in-Err.is) in
    rw is
    record {
      left = left_saying (rw (c.word.ensures, c.word-2.ensures, c.word-3.ensures) at c.say_wrong.ensures);
      placed = placed_nothing _ 0;
    }
