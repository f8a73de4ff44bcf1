-- Past the last fold it is 0; else each turn of the loop fades once more.
use Rattle.line_decay.proofs.Laws.{summed}
use Rattle.line_decay.specs.Decay.{faded, decay_number}
use borrow.Author.Rules.{rules}
use borrow.Author.Tests.{le-leb, lt-leb}
use native.Mathlib.Numerals.{add-one}
use native.Mathlib.Omega.{arith}
use mathlib.Core.Path.{◌≡◌, refl, ◌∙◌}
use Prim.Native.Nat.{◌/◌, ◌%◌}
use Rattle.line_decay.proofs.decay_number.Goals as goal

pub returns-then-m-ge-END : goal.returns-then-m-ge-END
unfolding decay_number
returns-then-m-ge-END c = (rw (le-leb _ _ c.if-m-ge-END.true), search rules)

pub loop-init : goal.loop-init
unfolding faded
loop-init c =
    let r = c.args.m % 7200 in
    (omega (arith, c.series-d.ensures, (summed r (omega arith) 6).high), refl)

pub loop-preserved : goal.loop-preserved
unfolding faded
loop-preserved c = (search rules, c.fade-d.ensures.0 ∙ rw add-one (cc))

pub returns : goal.returns
unfolding decay_number
returns c =
    let e : c.loop.counter ≡ c.args.m / 7200 = omega arith in
    (rw (lt-leb _ _ c.if-m-ge-END.false) (cc), search rules)
