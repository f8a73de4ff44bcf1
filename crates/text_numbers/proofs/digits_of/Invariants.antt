-- `text_numbers::digits_of`. The loop's invariant: the number that the bytes passed spell.
use Rattle.text_numbers.specs.Numbers.{not_number, number_in}
use lib.ListN.{length}
use mathlib.Core.Path.{◌≡◌}
use Prim.Native.Nat.{◌≤◌, ◌-◌}
use Rattle.text_numbers.proofs.digits_of.Given as goal

abbrev pub invariant-loop-n : goal.invariant-loop-n
invariant-loop-n l = (l.n ≤ length l.word) × (l.number ≤ not_number) × (l.number ≡ number_in l.word l.n)

abbrev pub decreases-loop-n : goal.decreases-loop-n
decreases-loop-n l = length l.word - l.n
