-- Line by line: of the cells that the list names, those from the next on are still old. A line past the kind's names none.
use Rattle.amend_reach.proofs.Copies.{named_from, lines_next, lines_passed, lines_over, next_line}
use Rattle.amend_reach.proofs.Merging.{none_copied, one_copied, all_copied}
use lib.ListN.{get_or}
use native.Mathlib.Omega.{arith}
use Prim.Native.Nat.{◌+◌, ◌-◌}
use Rattle.amend_reach.proofs.copy_lines.Goals.{else-line-last, then-line-last}
use Rattle.amend_reach.proofs.copy_lines.Goals as goal

pub loop-line-init : goal.loop-line-init
loop-line-init c = (none_copied c.requires.0, c.requires.2)

pub overflow_add-cell : goal.overflow_add-cell
overflow_add-cell c = omega arith

pub overflow_sub-cell : goal.overflow_sub-cell
overflow_sub-cell c = omega (arith, next_line _ _ c.loop-line-test.true c.loop-line.invariant.1)

pub offset_bounds-fresh-cell : goal.offset_bounds-fresh-cell
offset_bounds-fresh-cell c = omega (arith, next_line _ _ c.loop-line-test.true c.loop-line.invariant.1)

pub bounds-fresh-cell : goal.bounds-fresh-cell
bounds-fresh-cell c = omega (arith, next_line _ _ c.loop-line-test.true c.loop-line.invariant.1)

pub offset_bounds-sheet-cell : goal.offset_bounds-sheet-cell
offset_bounds-sheet-cell c = omega (arith, next_line _ _ c.loop-line-test.true c.loop-line.invariant.1)

pub bounds-sheet-cell : goal.bounds-sheet-cell
bounds-sheet-cell c = omega (arith, next_line _ _ c.loop-line-test.true c.loop-line.invariant.1)

pub loop-line-preserved : goal.loop-line-preserved
loop-line-preserved c =
    let l = c.loop-line in
    let last = c.lines-last.result in
    let a = c.args in
    let inside = c.loop-line-test.true in
    let next = next_line a.lines.now l.line-index inside l.invariant.1 in (
      (elim c.if-line-last.branch [
        | then-line-last w ↦ rw w.sheet-is
            (one_copied (named_from last a.first a.lines.now (l.line-index + 1)) (a.first + get_or a.lines.now l.line-index 0 - 1) (omega arith)
            (lines_next last a.first a.lines.now l.line-index inside next.least w.if-line-last.true) l.invariant.0)
        | else-line-last w ↦ rw (w.sheet-is, ← lines_passed last a.first a.lines.now l.line-index inside w.if-line-last.false) l.invariant.0
      ]),
      next.later,
    )

pub returns : goal.returns
returns c =
    rw (← c.lines-last.ensures) (all_copied (lines_over _ _ _ _ c.loop-line-test.false) c.loop-line.invariant.0)
