-- `program_io::read_open`. The loop's invariant: what is read so far lies within the area, and is what the reader lost; each read
-- leaves less room.
use Rattle.std.proofs.Common.{length, take, ◌-◌, ◌≤◌}
use Rattle.std.specs.Io.KnownBytes.{Consumes}
use Rattle.program_io.proofs.read_open.Given as goal

abbrev pub invariant-loop-done : goal.invariant-loop-done
invariant-loop-done g l = (l.done ≤ length l.area) × Consumes (g.F.Read.remaining l.initial.file) (g.F.Read.remaining l.file) (take l.done l.area)

abbrev pub decreases-loop-done : goal.decreases-loop-done
decreases-loop-done g l = length l.area - l.done
