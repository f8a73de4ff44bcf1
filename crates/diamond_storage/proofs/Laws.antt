-- The numbers of the ratio test fit.
use Prim.Native.Nat.{ℕ, ◌*◌, ◌≤◌}
use native.Mathlib.Nat.{mul-le-mul}
use Rattle.kinds.specs.declared.Kind.TheVariants.{Volume, Cycle, Storage}
use Rattle.kinds.specs.Kinds.{Within}
use Rattle.kinds.specs.Working.{most_of}

-- N = vL·CL
pub mean_most : (v CL : ℕ) → Within Volume v → Within Cycle CL → v * CL ≤ most_of Volume * most_of Cycle
mean_most v CL h k = mul-le-mul h.most k.most

-- and the square of what the storage has more
pub square_most : (x : ℕ) → x ≤ 3600 * most_of Storage → x * x ≤ (3600 * most_of Storage) * (3600 * most_of Storage)
square_most x h = mul-le-mul h h
