-- The loop's invariant: whatever the bytes were before the heading, the rows of the cells passed stand past it.
use mathlib.Core.Path.{◌≡◌, sym, ◌∙◌}
use native.Mathlib.Omega.{arith}
use Rattle.text.specs.Text.{ascii}
use Rattle.layout.proofs.Laws.{few}
use Rattle.layout.specs.Sheet.{sheet_count}
use Rattle.page.specs.Worksheet.{change_head, change_rows}
use Rattle.page.proofs.Laws.{row_listed, row_unlisted}
use Rattle.page.proofs.changes.Goals.{else-is_listed, then-is_listed}
use Rattle.page.proofs.changes.Goals as goal

pub loop-cell-init : goal.loop-cell-init
unfolding change_rows
loop-cell-init c = (omega (arith, c.put_bytes-at.ensures.next), λ list long head. head)

pub put_row-requires : goal.put_row-requires
put_row-requires c =
    omega (arith, (few c.args.kind).cells)

pub overflow_add-at : goal.overflow_add-at
overflow_add-at c =
    omega (arith, (few c.args.kind).cells)

pub loop-cell-preserved : goal.loop-cell-preserved
loop-cell-preserved c =
    let is = sym c.is_listed.ensures in
    let loop = c.loop-cell in
    let n = loop.cell in
    let room = (few c.args.kind).cells in
    elim c.if-is_listed.branch [
      | then-is_listed w ↦ (
        omega (arith, w.at-is),
        λ list long head. rw w.at-is
            (row_listed _ _ _ n (omega arith) long (is ∙ w.if-is_listed.true) (loop.invariant.1 list long head) (w.out-is ∙ w.put_row.ensures)),
      )
      | else-is_listed w ↦ (
        omega (arith, w.at-is),
        λ list long head. rw (w.out-is, w.at-is) (row_unlisted _ _ _ n (is ∙ w.if-is_listed.false) (loop.invariant.1 list long head)),
      )
    ]

pub returns : goal.returns
unfolding change_head ascii
returns c =
    let args = c.args in
    let end : c.loop-cell.cell ≡ sheet_count args.kind = omega arith in
    let rows = rw end at (c.loop-cell.invariant.1 args.out.now (omega arith) c.put_bytes-at.ensures) in
    record {
      out_after = rows.is;
      value = omega (arith, rows.next);
    }
