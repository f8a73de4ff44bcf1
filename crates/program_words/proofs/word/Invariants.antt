-- The word sought is, of those from the place on, the one that many further.
use Rattle.program_words.specs.Words.{word_at}
use Prim.Native.Nat.{◌-◌, ◌≤◌}
use mathlib.Core.Path.{◌≡◌}
use lib.ListN.{length, drop}
use Rattle.program_words.proofs.word.Given as goal

abbrev pub invariant-loop : goal.invariant-loop
invariant-loop l = (l.from ≤ length l.words) × (word_at l.words l.n ≡ word_at (drop l.from l.words) (l.n - l.counter))
