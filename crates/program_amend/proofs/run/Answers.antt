-- By what is wished for.
use Rattle.program_amend.specs.Run.{amend_run}
use Rattle.program_outcome.proofs.Laws.{left_printing}
use Rattle.text.proofs.Laws.{placed_nothing}
use mathlib.Core.Path.{sym, ◌∙◌}
use Rattle.program_amend.proofs.run.Goals as goal

pub returns-in-Help : goal.returns-in-Help
unfolding amend_run
returns-in-Help c =
    let is = sym c.wish_of-wish.ensures ∙ c.in-Help.is in
    rw (rw c.word.ensures at is, c.printed.ensures) record {
      left = left_printing c.put_use.ensures;
      placed = placed_nothing _ 0;
    }

pub returns-in-Version : goal.returns-in-Version
unfolding amend_run
returns-in-Version c =
    let is = sym c.wish_of-wish.ensures ∙ c.in-Version.is in
    rw (rw c.word.ensures at is, c.printed-in-Version.ensures) record {
      left = left_printing c.put_version.ensures;
      placed = placed_nothing _ 0;
    }

pub returns-in-Work : goal.returns-in-Work
unfolding amend_run
returns-in-Work c =
    let is = sym c.wish_of-wish.ensures ∙ c.in-Work.is in
    rw (rw c.word.ensures at is) c.work.ensures
