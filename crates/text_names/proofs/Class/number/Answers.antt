use native.Mathlib.Nat.{mod-lt}
use mathlib.Core.Path.{refl}
use Rattle.text_names.proofs.Class.number.Goals as goal

pub returns : goal.returns
returns c = (refl, mod-lt _ c.requires.some)
