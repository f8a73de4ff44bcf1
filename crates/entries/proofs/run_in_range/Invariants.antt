-- Each turn takes one entry more, judged by the kind of its like; the first bad one stops the run.
use Rattle.entries.specs.Working.{all_in_range}
use mathlib.Core.Path.{◌≡◌}
use mathlib.Core.Bool.{true}
use Rattle.entries.proofs.run_in_range.Given as goal

abbrev pub invariant-loop-place : goal.invariant-loop-place
invariant-loop-place l = all_in_range l.entries l.first l.place ≡ true
