-- The numbers passed stand packed from the place on.
use Rattle.lists.specs.Lists.{over}
use Rattle.study_numbers.specs.Numbers.{packed}
use lib.ListN.{take}
use mathlib.Core.Path.{◌≡◌}
use Rattle.study_numbers.proofs.write_all.Given as goal

abbrev pub invariant-loop-i : goal.invariant-loop-i
invariant-loop-i l = l.bytes ≡ over l.initial.bytes l.at (packed (take l.i l.numbers))
