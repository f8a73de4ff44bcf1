-- Each turn of the loop has faded once more.
use Rattle.line_decay.specs.Decay.{faded}
use mathlib.Core.Path.{◌≡◌}
use Prim.Native.Nat.{◌≤◌}
use Rattle.line_decay.proofs.decay_number.Given as goal

abbrev pub invariant-loop : goal.invariant-loop
invariant-loop l = (l.d ≤ 1_000_000_000) × (l.d ≡ faded l.initial.d l.counter)
