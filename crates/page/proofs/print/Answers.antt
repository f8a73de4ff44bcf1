-- The loop's invariant: the bytes passed are those of the sheet, the others are as they were.
use mathlib.Core.Path.{◌≡◌}
use native.Mathlib.Nat.{zero-add}
use native.Mathlib.Omega.{arith}
use Rattle.lists.specs.Lists.{table}
use Rattle.lists.proofs.Laws.{length-table, table_more, over_none, over_more}
use Rattle.page_form.proofs.Sections.{few_rows}
use Rattle.page.specs.Worksheet.{sheet_byte, sheet_bytes}
use Rattle.page.proofs.print.Goals as goal

pub overflow_mul-bytes : goal.overflow_mul-bytes
overflow_mul-bytes c = omega (arith, few_rows c.args.kind)

pub loop-i-init : goal.loop-i-init
unfolding table
loop-i-init c = over_none _ _

pub new-requires : goal.new-requires
new-requires c = omega (arith, few_rows c.args.kind)

pub bounds-out-i : goal.bounds-out-i
bounds-out-i c = omega (arith, few_rows c.args.kind)

pub loop-i-preserved : goal.loop-i-preserved
loop-i-preserved c =
    let args = c.args in
    let byte = sheet_byte args.kind args.cells.now in
    let i = c.loop-i.i in
    rw (c.row_byte.ensures, c.new.ensures.0, c.new.ensures.1, c.loop-i.invariant, table_more byte i)
    (rw (zero-add i) at (over_more args.out.now 0 i (table byte i) (byte i) (length-table byte i) (omega (arith, few_rows args.kind))))

pub returns : goal.returns
returns c =
    let args = c.args in
    let byte = sheet_byte args.kind args.cells.now in
    let end : c.loop-i.i ≡ sheet_bytes args.kind = omega (arith, few_rows args.kind) in
    record { is = rw end at c.loop-i.invariant; next = omega (arith, length-table byte (sheet_bytes args.kind)) }
