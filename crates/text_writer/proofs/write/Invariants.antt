-- `text_writer::write`. The loop's invariant: the text of the entries passed stands at the front.
use Rattle.text_writer.specs.Writer.{entry_texts}
use Rattle.layout.specs.Entries.{entry_count}
use Rattle.text.specs.Text.{Placed}
use lib.ListN.{length}
use Prim.Native.Nat.{◌≤◌, ◌-◌}
use mathlib.Core.Path.{◌≡◌}
use Rattle.text_writer.proofs.write.Given as goal

abbrev pub invariant-loop-entry : goal.invariant-loop-entry
invariant-loop-entry l =
    (l.entry ≤ entry_count) × (length l.out ≡ length l.initial.out) × Placed l.initial.out 0 (entry_texts l.entries l.entry) l.out l.at

abbrev pub decreases-loop-entry : goal.decreases-loop-entry
decreases-loop-entry l = entry_count - l.entry
