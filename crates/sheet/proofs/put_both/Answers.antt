use Rattle.layout.proofs.Laws.{few}
use Rattle.line_stages.specs.Cells.{cells_for}
use Rattle.lists.proofs.Laws.{over_then}
use Rattle.sheet.proofs.Laws.{lines_count}
use native.Mathlib.Omega.{arith}
use Rattle.sheet.proofs.put_both.Goals as goal

pub put_lines-requires : goal.put_lines-requires
put_lines-requires c = omega (arith, c.requires)

pub overflow_add-at : goal.overflow_add-at
overflow_add-at c =
    omega (arith, c.lines.ensures, (few c.args.kind).lines)

pub put_lines-requires-2 : goal.put_lines-requires-2
put_lines-requires-2 c =
    omega (arith, c.lines.ensures, c.requires)

pub returns : goal.returns
returns c =
    let a = c.args in
    let k = a.kind in
    let wide = c.lines.ensures in
    over_then a.all.now a.at (cells_for k a.one) (cells_for k a.other) c.put_lines.ensures c.put_lines-2.ensures
    (omega (arith, wide, lines_count k a.one)) (omega (arith, wide, c.requires, lines_count k a.other))
