-- Of the approach's lines the adjusted times are taken; its free right is its own entry.
use Rattle.diamond_sides.proofs.Laws.{served_made}
use Rattle.procedure.specs.Approach.{read_approach}
use mathlib.Core.Path.{◌∙◌, ap}
use lib.Dec.{lit<}
use Rattle.diamond_sides.proofs.served_at.Goals as goal

pub lines_at-lines-requires : goal.lines_at-lines-requires
lines_at-lines-requires c = (c.requires.0, c.requires.1, c.requires.1)

pub approach_value-requires : goal.approach_value-requires
approach_value-requires c = (c.requires.0, c.requires.1, lit< tt)

pub new-free-requires : goal.new-free-requires
new-free-requires c = c.approach_value.ensures.1

pub returns : goal.returns
unfolding read_approach
returns c =
    let free = c.new-free.ensures ∙ c.approach_value.ensures.0 in
    let lines = c.lines_at-lines in
    served_made _ _ lines.result.first c.unless_free.result (ap (λ x. x.first) lines.ensures) (rw free at c.unless_free.ensures)
