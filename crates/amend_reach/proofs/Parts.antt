-- What is reached, part by part of a sheet.
use mathlib.Core.Path.{◌≡◌}
use mathlib.Core.Bool.{true}
use Prim.Native.Nat.{ℕ, suc, ◌-◌, ◌/◌, ◌%◌, ◌≤◌, ◌<◌}
use native.Mathlib.Omega.{arith}
use lib.Dec.{eqb}
use borrow.Author.Tests.{lt-ltb, le-ltb}
use Rattle.layout.specs.declared.Worksheet.{Worksheet}
use Rattle.layout.specs.Entries.{entry_count}
use Rattle.layout.specs.Sheet.{line_count, lines_from, pair_cells, pairs_from, last_from}
use Rattle.kinds.specs.Kinds.{kind_at}
use Rattle.amend_reach.specs.Reach.{reach_of, approach_at, reached_line, reached_pair, reached}

module _ (k : Worksheet) (i j : ℕ) where
  pub at_entry : j < entry_count → reached k i j ≡ eqb j i
  unfolding reached
  at_entry h = rw (lt-ltb j entry_count h)

  pub at_line :
      lines_from ≤ j → j < pairs_from k
      → reached k i j ≡ reached_line (reach_of (kind_at i)) (approach_at i) ((j - lines_from) / line_count k) (suc ((j - lines_from) % line_count k))
  unfolding reached
  at_line h p = rw (le-ltb j entry_count h, lt-ltb j (pairs_from k) p)

  pub at_pair :
      pairs_from k ≤ j → j < last_from k
      → reached k i j ≡ reached_pair (reach_of (kind_at i)) (approach_at i) ((j - pairs_from k) / pair_cells k)
  unfolding reached
  at_pair h p = rw (le-ltb j entry_count (omega arith), le-ltb j (pairs_from k) h, lt-ltb j (last_from k) p)

  pub at_last : last_from k ≤ j → reached k i j ≡ true
  unfolding reached
  at_last h = rw (le-ltb j entry_count (omega arith), le-ltb j (pairs_from k) (omega arith), le-ltb j (last_from k) h)
