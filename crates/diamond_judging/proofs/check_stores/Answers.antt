-- A search from the first: no storage is left behind, and the first that is out of range is answered.
use Rattle.answers.proofs.Laws.{accepts, refuses, search_starts, search_goes_on, search_stops, search_ends}
use Rattle.diamond_rules.specs.Record.{stores_answer}
use mathlib.Core.Path.{refl}
use native.Mathlib.Omega.{arith}
use Rattle.std.proofs.lemmas.Bool.{not_from_false, not_from_true}
use Rattle.diamond_judging.proofs.check_stores.Goals as goal

pub loop-storage-init : goal.loop-storage-init
loop-storage-init c = search_starts _ _

pub returns-then-not-holds : goal.returns-then-not-holds
unfolding stores_answer
returns-then-not-holds c =
    search_stops _ _ _ (omega arith) (refuses _ _ (rw c.holds.ensures at (not_from_false _ c.if-not-holds.true))) refl c.loop-storage.invariant

pub loop-storage-preserved : goal.loop-storage-preserved
loop-storage-preserved c =
    search_goes_on _ _ _ (omega arith) (accepts _ _ (rw c.holds.ensures at (not_from_true _ c.if-not-holds.false))) c.loop-storage.invariant

pub returns : goal.returns
unfolding stores_answer
returns c = search_ends _ _ _ (omega arith) c.loop-storage.invariant
