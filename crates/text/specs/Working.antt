-- Working definition: what digits spell, for the laws of reading back.
use Rattle.std.specs.Prelude.{ℕ, ◌+◌, ◌*◌, ◌-◌, List, [], ◌∷◌}

-- the number that digits spell, after those that spell `before`
unfoldable pub spelled : ℕ → List ℕ → ℕ
spelled before [] = before
spelled before (byte ∷ bytes) = spelled (10 * before + (byte - 48)) bytes
