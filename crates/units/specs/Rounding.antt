-- "Times are rounded up": the quotient rounded up.
use Rattle.std.specs.Prelude.{ℕ, ◌+◌, ◌-◌, ◌/◌}

-- a / b, rounded up. (antt's quotient by 0 is 0, and so is this one.)
unfoldable pub up : ℕ → ℕ → ℕ
up a b = (a + (b - 1)) / b
