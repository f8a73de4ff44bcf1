-- The definition's cases in the code's order: no shared lane, left lanes beside it, no through lane.
use Rattle.entries.specs.Judging.{badly_shared}
use borrow.Author.Tests.{lt-ltb, le-ltb}
use Rattle.entries.proofs.is_badly_placed.Goals as goal

pub returns-then-not-is_shared : goal.returns-then-not-is_shared
unfolding badly_shared
returns-then-not-is_shared c = rw (← c.is_shared.ensures, c.if-not-is_shared.true)

pub returns-then-movement_entry-gt0 : goal.returns-then-movement_entry-gt0
unfolding badly_shared
returns-then-movement_entry-gt0 c = rw (
  ← c.is_shared.ensures,
  c.if-not-is_shared.false,
  ← c.movement_entry.ensures,
  lt-ltb _ _ c.if-movement_entry-gt0.true,
)

pub returns : goal.returns
unfolding badly_shared
returns c = rw (
  ← c.is_shared.ensures,
  c.if-not-is_shared.false,
  ← c.movement_entry.ensures,
  le-ltb _ _ c.if-movement_entry-gt0.false,
  ← c.movement_entry-2.ensures,
)
