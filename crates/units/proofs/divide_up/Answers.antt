use Rattle.units.specs.Rounding.{up}
use native.Mathlib.Nat.{div-zero}
use mathlib.Core.Path.{refl}
use Rattle.units.proofs.divide_up.Goals as goal

pub returns-then-b-eq0 : goal.returns-then-b-eq0
unfolding up
returns-then-b-eq0 c = rw (c.if-b-eq0.true, div-zero)

pub returns : goal.returns
unfolding up
returns c = refl
