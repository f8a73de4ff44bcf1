-- The loop's invariant: whatever the bytes were before the heading, the rows of the cells passed stand past it.
use Prim.Native.Nat.{ℕ, ◌+◌, ◌*◌, ◌≤◌}
use mathlib.Core.Path.{◌≡◌}
use mathlib.Core.List.{List}
use lib.ListN.{length}
use Rattle.text.specs.Text.{Placed}
use Rattle.page.specs.Worksheet.{row_width, change_head, change_rows}
use Rattle.page.specs.Working.{change_bytes}
use Rattle.page.proofs.changes.Given as goal

abbrev pub invariant-loop-cell : goal.invariant-loop-cell
invariant-loop-cell l =
    (l.at ≤ row_width * (l.cell + 1))
    × ((list : List ℕ) → length list ≡ change_bytes → Placed list 0 change_head l.initial.out l.initial.at
    → Placed list 0 (change_rows l.amended.kind l.amended.before.now l.amended.after.now l.cell) l.out l.at)
