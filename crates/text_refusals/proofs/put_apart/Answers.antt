-- `text_refusals::put_apart`. Nothing where the usual value is no smaller than the least; else it, and what parts it from the range.
use Rattle.text.proofs.Laws.{placed_after, placed_nothing}
use Rattle.text_refusals.specs.Refusals.{apart_text}
use Rattle.text.specs.Text.{ascii}
use borrow.Author.Tests.{lt-ltb, le-ltb}
use native.Mathlib.Omega.{arith}
use Rattle.text_refusals.proofs.put_apart.Goals as goal

pub returns-then-limits : goal.returns-then-limits
unfolding apart_text
returns-then-limits c =
    let limits = c.limits-limits in
    let is = limits.ensures in
    let inside = le-ltb limits.result.usual limits.result.least c.if-limits.true in
    (rw (← is.0, ← is.2, inside) (placed_nothing _ _), omega arith)

pub returns : goal.returns
unfolding apart_text ascii
returns c =
    let is = c.limits-limits.ensures in
    let usual = rw is.2 at c.put_value-usual.ensures.0 in
    let both = placed_after usual c.put_bytes.ensures (omega arith) in
    (rw (← is.0, ← is.2, lt-ltb _ _ c.if-limits.false) (rw (← is.2) at both), omega arith)
