use Rattle.units.specs.Rounding.{up}
use mathlib.Core.Path.{refl}
use Rattle.line_left_lane.proofs.share_out.Goals as goal

pub returns : goal.returns
unfolding up
returns c = refl
