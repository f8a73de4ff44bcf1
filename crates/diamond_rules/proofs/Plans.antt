-- Laws of the timing plans: no subtraction of Table 6-4 goes below 0, and what the pick is worth.
use Prim.Native.Nat.{ℕ, ◌*◌, ◌≤◌}
use native.Mathlib.Omega.{arith}
use Rattle.diamond_rules.specs.declared.Side.{Side}
use Rattle.diamond_rules.specs.Lines.{entering, overlap, held}

-- an overlap is no longer than the travel time, nor than what enters
pub overlap_most : (t_t : ℕ) (s : Side) → (overlap t_t s ≤ t_t) × (overlap t_t s ≤ entering s)
unfolding overlap
overlap_most t_t s = (omega arith, omega arith)

-- and a ramp is held at least twice as long
pub held_least : (t_t : ℕ) (s : Side) → 2 * t_t ≤ held t_t s
unfolding held
held_least t_t s = omega arith

-- so an overlap is no longer than any ramp is held
pub overlap-held : (t_t : ℕ) (s z : Side) → overlap t_t s ≤ held t_t z
overlap-held t_t s z = omega (arith, (overlap_most t_t s).0, held_least t_t z)
