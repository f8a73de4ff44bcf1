use mathlib.Core.Bool.{or-true}
use borrow.Author.Tests.{eq-eqb, ne_eqb}
use Rattle.line_bounds.proofs.Order.{larger}
use Rattle.sheet_pairs.proofs.permitted_time.Goals as goal

pub returns-then-x : goal.returns-then-x
returns-then-x c = rw (eq-eqb _ _ c.if-x.true)

pub returns-then-y : goal.returns-then-y
returns-then-y c = rw (eq-eqb _ _ c.if-y.true, or-true)

pub returns : goal.returns
returns c = rw (ne_eqb _ _ c.if-x.false, ne_eqb _ _ c.if-y.false) (larger c.args.x c.args.y c.max.ensures)
