-- The ends are passed so far, and those that are left as they will be.
use Rattle.procedure.specs.Pairs.{ends_passed}
use lib.ListN.{drop}
use Prim.Native.Nat.{◌+◌}
use mathlib.Core.Path.{◌≡◌}
use Rattle.sheet_totals.proofs.passed.Given as goal

abbrev pub invariant-loop-i : goal.invariant-loop-i
invariant-loop-i l = ends_passed l.ends l.number ≡ l.i + ends_passed (drop l.i l.ends) l.number
