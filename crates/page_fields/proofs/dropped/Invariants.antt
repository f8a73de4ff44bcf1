-- The loop's invariant: so many digits are dropped.
use mathlib.Core.Path.{◌≡◌}
use Rattle.page_fields.specs.Fields.{dropped}
use Rattle.page_fields.proofs.dropped.Given as goal

abbrev pub invariant-loop : goal.invariant-loop
invariant-loop l = l.left ≡ dropped l.number l.counter
