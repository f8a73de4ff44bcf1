-- The loop's invariant: the changes passed came to what the definition says of them, and each said at most a sentence.
use Prim.Native.Nat.{◌*◌, ◌≤◌}
use mathlib.Core.Path.{◌≡◌}
use lib.ListN.{length}
use Rattle.program_changes.specs.Changes.{changes_to}
use Rattle.program_changes.specs.Working.{sentence_most, said_most, Came}
use Rattle.program_changes.proofs.change_each.Given as goal

abbrev pub invariant-loop-n : goal.invariant-loop-n
invariant-loop-n l =
    (l.so.says ≤ sentence_most * l.n) × (length l.said ≡ said_most)
    × Came (changes_to l.worksheet l.several l.words l.initial.entries l.n) l.initial.said l.entries l.said l.so
