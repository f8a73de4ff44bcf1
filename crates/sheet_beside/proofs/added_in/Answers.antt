-- By the tests in the order of the code: no rights, a free right, and else what the calls promise.
use borrow.Author.Tests.{eq-eqb, ne_eqb}
use Rattle.sheet_beside.specs.Beside.{added}
use Rattle.sheet_beside.proofs.added_in.Goals as goal

pub returns-then-line_in-eq0 : goal.returns-then-line_in-eq0
unfolding added
returns-then-line_in-eq0 c = rw (← c.line_in.ensures, eq-eqb _ _ c.if-line_in-eq0.true)

pub returns-then-cells-a-eq1 : goal.returns-then-cells-a-eq1
unfolding added
returns-then-cells-a-eq1 c =
    rw (← c.line_in.ensures, ne_eqb _ _ c.if-line_in-eq0.false, eq-eqb _ _ c.if-cells-a-eq1.true)

pub returns : goal.returns
unfolding added
returns c =
    rw (
      ← c.line_in.ensures,
      ne_eqb _ _ c.if-line_in-eq0.false,
      ne_eqb _ _ c.if-cells-a-eq1.false,
      c.through_in.ensures,
      c.left_in.ensures,
    )
