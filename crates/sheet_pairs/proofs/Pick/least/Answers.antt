-- Permitted or split is picked where protected is above one of them.
use borrow.Author.Tests.{le-leb, lt-leb}
use native.Mathlib.Omega.{arith}
use Rattle.procedure.specs.Pairs.{picked}
use Rattle.sheet_pairs.proofs.Pick.least.Goals.{else-protected-permitted-via-then-protected-permitted+else-protected-split, else-protected-permitted-via-else-protected-permitted}
use Rattle.sheet_pairs.proofs.Pick.least.Goals as goal

pub returns-then-protected-split : goal.returns-then-protected-split
unfolding picked
returns-then-protected-split c =
    let x = c.args in
    rw (le-leb x.protected.0 x.permitted.0 (omega arith), le-leb x.protected.0 x.split.0 (omega arith))

pub returns-then-permitted-split : goal.returns-then-permitted-split
unfolding picked
returns-then-permitted-split c =
    elim c.else-protected-permitted.branch [
      | else-protected-permitted-via-then-protected-permitted+else-protected-split w ↦
          rw (le-leb _ _ w.if-protected-permitted.true, lt-leb _ _ w.if-protected-split.false, le-leb _ _ c.if-permitted-split.true)
      | else-protected-permitted-via-else-protected-permitted w ↦
          rw (lt-leb _ _ w.if-protected-permitted.false, le-leb _ _ c.if-permitted-split.true)
    ]

pub returns-else-permitted-split : goal.returns-else-permitted-split
unfolding picked
returns-else-permitted-split c =
    elim c.else-protected-permitted.branch [
      | else-protected-permitted-via-then-protected-permitted+else-protected-split w ↦
          rw (le-leb _ _ w.if-protected-permitted.true, lt-leb _ _ w.if-protected-split.false, lt-leb _ _ c.if-permitted-split.false)
      | else-protected-permitted-via-else-protected-permitted w ↦
          rw (lt-leb _ _ w.if-protected-permitted.false, lt-leb _ _ c.if-permitted-split.false)
    ]
