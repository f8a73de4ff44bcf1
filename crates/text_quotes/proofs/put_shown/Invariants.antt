-- `text_quotes::put_shown`. The loop's invariant: the bytes passed are shown.
use Rattle.text_quotes.specs.Quotes.{shown_byte}
use Rattle.lists.specs.Lists.{table}
use Rattle.text.specs.Text.{Placed}
use lib.ListN.{length, get_or}
use mathlib.Core.Path.{◌≡◌}
use mathlib.Core.List.{List}
use Prim.Native.Nat.{ℕ, ◌≤◌, ◌-◌}
use Rattle.text_quotes.proofs.put_shown.Given as goal

abbrev pub byte_of : List ℕ → ℕ → ℕ
byte_of word i = shown_byte (get_or word i 0)

abbrev pub invariant-loop-i : goal.invariant-loop-i
invariant-loop-i l =
    (l.i ≤ l.size) × (length l.out ≡ length l.initial.out) × Placed l.initial.out l.at (table (byte_of l.word) l.i) l.out l.end

abbrev pub decreases-loop-i : goal.decreases-loop-i
decreases-loop-i l = l.size - l.i
