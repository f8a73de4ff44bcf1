use Rattle.program_outcome.proofs.Laws.{left_saying}
use mathlib.Core.Path.{sym, ◌∙◌}
use Rattle.program_diamond.proofs.work.Goals as goal

pub returns-then-not-takes : goal.returns-then-not-takes
returns-then-not-takes c =
    let wrong = sym c.takes.ensures ∙ c.if-not-takes.true in
    rw (wrong, c.said.ensures) (left_saying c.put_use.ensures)

pub returns : goal.returns
returns c =
    let right = sym c.takes.ensures ∙ c.if-not-takes.false in
    rw (right, c.of.ensures) c.give.ensures
