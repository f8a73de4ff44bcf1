-- "D is the decay number, e^(−m/7200) in billionths."
use Rattle.std.specs.Prelude.{cond, ℕ, zero, suc, ◌+◌, ◌-◌, ◌*◌, ◌/◌, ◌%◌, leb}

-- "Term 0 is 10⁹; term k is term k−1 times r/(7200k), down"
unfoldable pub term : ℕ → ℕ → ℕ
term r zero = 1_000_000_000
term r (suc k) = term r k * r / (7200 * suc k)

-- terms 0 to 2j "added and subtracted in turn"
unfoldable pub turns : ℕ → ℕ → ℕ
turns r zero = term r 0
turns r (suc j) = turns r j - term r (2 * j + 1) + term r (2 * j + 2)

-- "Then c times: multiply by 367,879,441, divide by 10⁹, down."
unfoldable pub faded : ℕ → ℕ → ℕ
faded d zero = d
faded d (suc c) = faded d c * 367_879_441 / 1_000_000_000

-- "0 if m ≥ 115,200. Else m = 7200c+r with r<7200", and D₀ is terms 0 to 12
unfoldable pub decay_number : ℕ → ℕ
decay_number m = cond (leb 115_200 m) 0 (faded (turns (m % 7200) 6) (m / 7200))
