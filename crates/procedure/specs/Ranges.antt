-- What acceptance makes of an approach: the facts that the lines lean on.
use Rattle.std.specs.Prelude.{◌≡◌, true, ℕ, ◌<◌}
use Rattle.kinds.specs.declared.Group.{Group}
use Rattle.kinds.specs.declared.Group.TheVariants.{Through}
use Rattle.kinds.specs.declared.Kind.TheVariants.{Lanes, Volume, IdealFlow, LostTime, MinimumGreen, LaneFactor, Pedestrians, PedestrianTime, Cycle}
use Rattle.kinds.specs.Kinds.{Within}
use Rattle.procedure.specs.declared.Approach.{Approach}
use Rattle.procedure.specs.Approach.{n, v, i, lost, green, measured, p, crossing, is_shared}
use Rattle.procedure.specs.Lines.{volume}

pub record FairGroup (s : Approach) (g : Group) : Type 0 where
  pub lanes : Within Lanes (n s g)
  pub counted : Within Volume (v s g)
  pub ideal : Within IdealFlow (i s g)
  pub lost : Within LostTime (lost s g)
  pub green : Within MinimumGreen (green s g)
  pub measured : Within LaneFactor (measured s g)

-- every entry is in range, and what has volume is served
pub record Fair (s : Approach) : Type 0 where
  pub group : (g : Group) → FairGroup s g
  pub walkers : Within Pedestrians (p s)
  pub crossing : Within PedestrianTime (crossing s)
  pub served : (g : Group) → 0 < volume s g → 0 < n s g
  pub shares : is_shared s ≡ true → 0 < n s Through

abbrev pub FairCycle : ℕ → Type 0
FairCycle CL = Within Cycle CL
