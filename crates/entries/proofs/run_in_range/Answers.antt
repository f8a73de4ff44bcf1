-- Each turn takes one entry more, judged by the kind of its like; the first bad one stops the run.
use Rattle.entries.proofs.Laws.{range_goes_on, range_stops, one_in_range}
use Rattle.entries.specs.Working.{all_in_range}
use native.Mathlib.Omega.{arith}
use Prim.Native.Nat.{◌+◌}
use mathlib.Core.Path.{◌≡◌, refl, sym}
use Rattle.std.proofs.lemmas.Bool.{not_from_false, not_from_true}
use Rattle.entries.proofs.run_in_range.Goals as goal

pub loop-place-init : goal.loop-place-init
unfolding all_in_range
loop-place-init c = refl

pub returns-then-not-holds : goal.returns-then-not-holds
returns-then-not-holds c =
    let place = c.loop-place.place in
    range_stops _ _ _ (c.args.first + place) _ (omega arith) (omega arith)
    (one_in_range _ _ (c.args.like + place) (c.requires.2 place (omega arith)) c.at.ensures c.holds.ensures)
    (not_from_false _ c.if-not-holds.true)

pub loop-place-preserved : goal.loop-place-preserved
loop-place-preserved c =
    let place = c.loop-place.place in
    range_goes_on _ _ _ _ (c.args.first + place) _ c.loop-place.invariant (omega arith) (omega arith)
    (one_in_range _ _ (c.args.like + place) (c.requires.2 place (omega arith)) c.at.ensures c.holds.ensures)
    (not_from_true _ c.if-not-holds.false)

pub returns : goal.returns
returns c =
    let whole : c.loop-place.place ≡ c.args.count = omega arith in
    sym (rw whole at c.loop-place.invariant)
