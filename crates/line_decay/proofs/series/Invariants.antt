-- Each turn of the loop takes one term off and adds the next. Where a term is 0 the sum so far is the sum of all.
use Rattle.line_decay.specs.Decay.{term, turns}
use mathlib.Core.Path.{◌≡◌}
use Prim.Native.Nat.{ℕ, ◌+◌, ◌*◌, ◌≤◌}
use Rattle.line_decay.proofs.series.Given as goal

-- the loop at j: the term 2j and the sum up to it, from which the next term can be taken
pub record Partial (r t s j : ℕ) : Type 0 where
  pub few : j ≤ 6
  pub at_term : t ≡ term r (2 * j)
  pub at_sum : s ≡ turns r j
  pub next : term r (2 * j + 1) ≤ s
  pub high : s ≤ 1_000_000_000

abbrev pub invariant-loop-j : goal.invariant-loop-j
invariant-loop-j l = Partial l.r l.term l.sum l.j
