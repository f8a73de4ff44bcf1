-- Two loops, over movements and over approaches, each turn a run that is judged like the first of its sort; the cycle ends it.
use Rattle.entries.proofs.Laws.{range_ends, range_goes_on, range_stops, one_in_range, movements_alike, approaches_alike}
use Rattle.entries.specs.Working.{all_in_range}
use Rattle.layout.specs.Entries.{approach_count, movement_count, cycle_entry}
use Rattle.kinds.specs.Kinds.{kind_at}
use native.Mathlib.Omega.{arith}
use mathlib.Core.Path.{◌≡◌, refl}
use Rattle.std.proofs.lemmas.Bool.{not_from_false, not_from_true}
use Rattle.entries.proofs.all_in_range.Goals as goal

pub loop-movement-init : goal.loop-movement-init
unfolding all_in_range
loop-movement-init c = refl

pub run_in_range-requires : goal.run_in_range-requires
run_in_range-requires c = (omega arith, omega arith, movements_alike _ (omega arith))

pub returns-then-not-run_in_range : goal.returns-then-not-run_in_range
returns-then-not-run_in_range c = range_stops _ _ _ _ _ (omega arith) (omega arith) c.run_in_range.ensures (not_from_false _ c.if-not-run_in_range.true)

pub loop-movement-preserved : goal.loop-movement-preserved
loop-movement-preserved c =
    range_goes_on _ _ _ _ _ _ c.loop-movement.invariant (omega arith) (omega arith)
    c.run_in_range.ensures (not_from_true _ c.if-not-run_in_range.false)

pub loop-approach-init : goal.loop-approach-init
loop-approach-init c =
    let whole : c.loop-movement.movement ≡ movement_count = omega arith in
    rw whole at c.loop-movement.invariant

pub run_in_range-requires-in-loop-approach : goal.run_in_range-requires-in-loop-approach
run_in_range-requires-in-loop-approach c = (omega arith, omega arith, approaches_alike _ (omega arith))

pub returns-then-not-run_in_range-2 : goal.returns-then-not-run_in_range-2
returns-then-not-run_in_range-2 c = range_stops _ _ _ _ _ (omega arith) (omega arith) c.run_in_range-in-loop-approach.ensures (not_from_false _ c.if-not-run_in_range-2.true)

pub loop-approach-preserved : goal.loop-approach-preserved
loop-approach-preserved c =
    range_goes_on _ _ _ _ _ _ c.loop-approach.invariant (omega arith) (omega arith)
    c.run_in_range-in-loop-approach.ensures (not_from_true _ c.if-not-run_in_range-2.false)

pub returns : goal.returns
unfolding kind_at
returns c =
    let whole : c.loop-approach.approach ≡ approach_count = omega arith in
    range_ends _ _ cycle_entry _ _ _ (rw whole at c.loop-approach.invariant) (omega arith) (omega arith)
    (one_in_range _ cycle_entry cycle_entry refl refl (rw c.cycle_entry.ensures at c.holds.ensures))
