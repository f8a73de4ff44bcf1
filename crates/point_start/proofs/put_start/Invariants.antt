-- The loop's invariant: the entries passed have their starting values, the others are as they were.
use mathlib.Core.Path.{◌≡◌}
use mathlib.Core.List.{◌++◌}
use lib.ListN.{drop}
use Rattle.lists.specs.Lists.{table}
use Rattle.point_start.specs.Start.{start_at}
use Rattle.point_start.proofs.put_start.Given as goal

abbrev pub invariant-loop-i : goal.invariant-loop-i
invariant-loop-i l = l.entries ≡ table start_at l.i ++ drop l.i l.initial.entries
