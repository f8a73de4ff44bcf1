-- The loop's invariant: so many digits are dropped.
use mathlib.Core.Path.{◌≡◌, refl}
use native.Mathlib.Numerals.{add-one}
use native.Mathlib.Omega.{arith}
use Rattle.page_fields.specs.Fields.{dropped}
use Rattle.page_fields.proofs.dropped.Goals as goal

pub loop-init : goal.loop-init
unfolding dropped
loop-init c = refl

pub loop-preserved : goal.loop-preserved
unfolding dropped
loop-preserved c = rw (add-one c.loop.counter, c.loop.invariant)

pub returns : goal.returns
returns c =
    let end : c.loop.counter ≡ c.args.digits = omega arith in
    rw end at c.loop.invariant
