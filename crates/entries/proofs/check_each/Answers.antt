-- A search from the first: no fault is left behind, and the first one found is answered.
use Rattle.entries.proofs.Laws.{count_most}
use Rattle.answers.proofs.Laws.{accepts, refuses, search_starts, search_goes_on, search_stops, search_ends}
use native.Mathlib.Omega.{arith}
use mathlib.Core.Path.{refl, sym, ◌∙◌}
use Rattle.entries.proofs.check_each.Goals as goal

pub loop-index-init : goal.loop-index-init
loop-index-init c = search_starts _ _

pub overflow_cast-result : goal.overflow_cast-result
overflow_cast-result c = omega (arith, count_most c.args.fault)

pub returns-then-is_faulty : goal.returns-then-is_faulty
returns-then-is_faulty c =
    rw c.into.ensures
    (search_stops _ _ _ (omega arith) (refuses _ _ (sym c.is_faulty.ensures ∙ c.if-is_faulty.true)) refl
    c.loop-index.invariant)

pub loop-index-preserved : goal.loop-index-preserved
loop-index-preserved c = search_goes_on _ _ _ (omega arith) (accepts _ _ (sym c.is_faulty.ensures ∙ c.if-is_faulty.false)) c.loop-index.invariant

pub returns : goal.returns
returns c = search_ends _ _ _ (omega arith) c.loop-index.invariant
