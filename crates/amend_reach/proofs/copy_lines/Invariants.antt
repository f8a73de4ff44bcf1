-- Line by line: of the cells that the list names, those from the next on are still old. A line past the kind's names none.
use Rattle.amend_reach.proofs.Copies.{named_from}
use Rattle.amend_reach.proofs.Merging.{Copying}
use Rattle.amend_reach.specs.Working.{are_lines}
use lib.ListN.{drop}
use mathlib.Core.Bool.{true}
use mathlib.Core.Path.{◌≡◌}
use Rattle.amend_reach.proofs.copy_lines.Given as goal

abbrev pub invariant-loop-line : goal.invariant-loop-line
invariant-loop-line l =
    Copying (named_from l.last l.first l.lines 0) (named_from l.last l.first l.lines l.line-index) l.fresh l.initial.sheet l.sheet × (are_lines (drop l.line-index l.lines) ≡ true)
