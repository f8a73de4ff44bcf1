-- What was found, by the two patterns that it is taken apart by.
use Prim.Native.Nat.{ℕ}
use mathlib.Core.Path.{◌≡◌}
use Rattle.std.specs.Prelude.{Option, Result, Ok}

pub found_there : {E : Type 0} (found : Result (Option ℕ) E) {inner there : Option ℕ} → found ≡ Ok inner → inner ≡ there → found ≡ Ok there
found_there found is within = rw (is, within)
