-- `program_heading::put_shown`. The loop's invariant: the bytes passed are shown.
use Rattle.program_heading.specs.Headings.{shown_byte}
use Rattle.lists.specs.Lists.{table}
use Rattle.text.specs.Text.{Placed}
use lib.ListN.{length, get_or}
use mathlib.Core.Path.{◌≡◌}
use mathlib.Core.List.{List}
use Prim.Native.Nat.{ℕ, ◌+◌}
use Rattle.program_heading.proofs.put_shown.Given as goal

abbrev pub byte_of : List ℕ → ℕ → ℕ
byte_of name i = shown_byte (get_or name i 0)

abbrev pub invariant-loop-i : goal.invariant-loop-i
invariant-loop-i l =
    (length l.out ≡ length l.initial.out) × Placed l.initial.out l.at (table (byte_of l.name) l.i) l.out (l.at + l.i)
