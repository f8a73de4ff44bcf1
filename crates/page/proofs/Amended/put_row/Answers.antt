-- The loop's invariant: the row's bytes passed stand from the place on.
use mathlib.Core.Path.{◌≡◌}
use native.Mathlib.Omega.{arith}
use Rattle.lists.specs.Lists.{table}
use Rattle.lists.proofs.Laws.{length-table, table_more, over_none, over_more}
use Rattle.page.specs.Worksheet.{change_byte, row_width}
use Rattle.page.proofs.Amended.put_row.Goals as goal

pub loop-i-init : goal.loop-i-init
unfolding table
loop-i-init c = over_none _ _

pub loop-i-preserved : goal.loop-i-preserved
loop-i-preserved c =
    let args = c.args in
    let byte = change_byte args.self.kind args.self.before.now args.self.after.now args.cell in
    let i = c.loop-i.i in
    rw (c.row_byte.ensures, c.loop-i.invariant, table_more byte i)
    (over_more args.out.now args.at i (table byte i) (byte i) (length-table byte i) (omega arith))

pub returns : goal.returns
returns c =
    let end : c.loop-i.i ≡ row_width = omega arith in
    rw end at c.loop-i.invariant
