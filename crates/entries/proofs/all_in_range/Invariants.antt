-- Two loops, over movements and over approaches, each turn a run that is judged like the first of its sort; the cycle ends it.
use Rattle.entries.specs.Working.{all_in_range}
use Rattle.layout.specs.Entries.{movement_entries, approaches_from, approach_entries}
use Prim.Native.Nat.{◌+◌, ◌*◌}
use mathlib.Core.Path.{◌≡◌}
use mathlib.Core.Bool.{true}
use Rattle.entries.proofs.all_in_range.Given as goal

abbrev pub invariant-loop-movement : goal.invariant-loop-movement
invariant-loop-movement l = all_in_range l.entries 0 (movement_entries * l.movement) ≡ true

abbrev pub invariant-loop-approach : goal.invariant-loop-approach
invariant-loop-approach l = all_in_range l.entries 0 (approaches_from + approach_entries * l.approach) ≡ true
