-- The numbers passed are read, the others are as they were.
use Rattle.study_numbers.specs.Numbers.{numbers_in}
use lib.ListN.{drop}
use mathlib.Core.List.{◌++◌}
use mathlib.Core.Path.{◌≡◌}
use Rattle.study_numbers.proofs.read_all.Given as goal

abbrev pub invariant-loop-i : goal.invariant-loop-i
invariant-loop-i l = l.numbers ≡ numbers_in l.bytes l.i ++ drop l.i l.initial.numbers
