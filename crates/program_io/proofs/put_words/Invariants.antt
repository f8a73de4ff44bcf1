-- `program_io::put_words`. The loop's invariant: the words taken lie within the area.
use Rattle.std.proofs.Common.{length, ◌≤◌}
use Rattle.program_io.proofs.put_words.Given as goal

abbrev pub invariant-loop-argument : goal.invariant-loop-argument
invariant-loop-argument g l = l.at ≤ length l.words
