-- The entries passed are those of today, the others are as they were.
use Rattle.lists.specs.Lists.{table}
use Rattle.study_before.specs.Before.{widened_at}
use lib.ListN.{drop}
use mathlib.Core.List.{◌++◌}
use mathlib.Core.Path.{◌≡◌}
use Rattle.study_before.proofs.widen.Given as goal

abbrev pub invariant-loop-i : goal.invariant-loop-i
invariant-loop-i l = l.entries ≡ table (widened_at l.before) l.i ++ drop l.i l.initial.entries
