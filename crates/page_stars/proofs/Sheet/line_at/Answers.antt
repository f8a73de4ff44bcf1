-- What is to fit: a line stands on the sheet, which is no larger than a junction's.
use native.Mathlib.Omega.{arith}
use Rattle.page_stars.proofs.Laws.{line_near}
use Rattle.page_stars.proofs.Sheet.line_at.Goals as goal

pub overflow_mul-lines : goal.overflow_mul-lines
overflow_mul-lines c =
    let args = c.args in
    rw c.lines.ensures (omega (arith, line_near args.self.kind args.a args.n (omega arith) (omega arith) (omega arith)))

pub overflow_add-lines : goal.overflow_add-lines
overflow_add-lines c =
    let args = c.args in
    rw c.lines.ensures (omega (arith, line_near args.self.kind args.a args.n (omega arith) (omega arith) (omega arith)))

pub overflow_add-lines-2 : goal.overflow_add-lines-2
overflow_add-lines-2 c =
    let args = c.args in
    rw c.lines.ensures (omega (arith, line_near args.self.kind args.a args.n (omega arith) (omega arith) (omega arith)))

pub returns : goal.returns
returns c = rw (c.value_of.ensures, c.lines.ensures)
