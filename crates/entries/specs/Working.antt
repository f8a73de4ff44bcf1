-- What the code asks first, so that acceptance is told soon: no public promise says it.
use Rattle.std.specs.Prelude.{◌≡◌, Bool, true, ◌&&◌, List, ℕ, zero, suc, ◌+◌, ◌<◌, get_or}
use Rattle.kinds.specs.Kinds.{in_range, kind_at}

-- each of n entries from i on is in range
unfoldable pub all_in_range : List ℕ → ℕ → ℕ → Bool
all_in_range e i zero = true
all_in_range e i (suc n) = in_range (kind_at i) (get_or e i 0) && all_in_range e (suc i) n

-- n entries from i on are of the kinds of those from k on
abbrev pub Alike : ℕ → ℕ → ℕ → Type 0
Alike n i k = (j : ℕ) → j < n → kind_at (i + j) ≡ kind_at (k + j)
