use Rattle.procedure.specs.Lines.{heaviest}
use native.Mathlib.Omega.{arith}
use Rattle.line_left_lane.proofs.heaviest_lane.Goals as goal

pub returns-then-each-lefts : goal.returns-then-each-lefts
unfolding heaviest
returns-then-each-lefts c = omega (arith, c.share_out-each.ensures)

pub returns : goal.returns
unfolding heaviest
returns c = omega (arith, c.share_out-each.ensures)
