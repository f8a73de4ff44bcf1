-- The definition's cases in the code's order: no volume, lanes of its own, lanes of the other groups.
use Prim.Native.Nat.{◌<◌}
use Rattle.entries.specs.Judging.{unserved}
use native.Mathlib.Omega.{arith}
use borrow.Author.Tests.{ne_eqb, lt-ltb}
use Rattle.entries.proofs.is_unserved.Goals as goal

pub returns-then-movement_entry-eq0 : goal.returns-then-movement_entry-eq0
unfolding unserved
returns-then-movement_entry-eq0 c = rw (← c.movement_entry.ensures, c.if-movement_entry-eq0.true)

pub returns-then-movement_entry-ne0 : goal.returns-then-movement_entry-ne0
unfolding unserved
returns-then-movement_entry-ne0 c =
    let h : 0 < c.movement_entry.result = omega (arith, c.if-movement_entry-eq0.false) in
    rw (← c.movement_entry.ensures, ← c.movement_entry-2.ensures, lt-ltb _ _ h, ne_eqb _ _ c.if-movement_entry-ne0.true)

pub returns : goal.returns
unfolding unserved
returns c =
    let h : 0 < c.movement_entry.result = omega (arith, c.if-movement_entry-eq0.false) in
    rw (
      ← c.movement_entry.ensures,
      ← c.movement_entry-2.ensures,
      lt-ltb _ _ h,
      c.if-movement_entry-ne0.false,
      c.other_lanes.ensures,
      c.of.ensures,
    )
