-- `text_times::point_in`. The loop's invariant: no point stands among the bytes passed.
use Rattle.text.proofs.Laws.{Searched}
use Rattle.text_times.specs.Times.{is_point}
use lib.ListN.{length}
use Prim.Native.Nat.{◌≤◌, ◌-◌}
use Rattle.text_times.proofs.point_in.Given as goal

abbrev pub invariant-loop-at : goal.invariant-loop-at
invariant-loop-at l = (l.at ≤ length l.word) × Searched is_point l.word l.at

abbrev pub decreases-loop-at : goal.decreases-loop-at
decreases-loop-at l = length l.word - l.at
