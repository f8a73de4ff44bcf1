-- `text_places::position_of`. The loop's invariant: the line and the column past the bytes passed.
use Rattle.text_places.specs.Places.{line_at, column_at}
use Prim.Native.Nat.{◌≤◌, ◌-◌}
use mathlib.Core.Path.{◌≡◌}
use Rattle.text_places.proofs.position_of.Given as goal

abbrev pub invariant-loop-i : goal.invariant-loop-i
invariant-loop-i l = (l.i ≤ l.byte) × (l.line ≡ line_at l.text l.i) × (l.column ≡ column_at l.text l.i)

abbrev pub decreases-loop-i : goal.decreases-loop-i
decreases-loop-i l = l.byte - l.i
