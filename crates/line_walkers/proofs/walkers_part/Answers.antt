use mathlib.Core.Path.{sym}
use native.Mathlib.Omega.{arith}
use Rattle.procedure.specs.Lines.{G}
use Rattle.line_bounds.proofs.Times.{walked_room, G_none}
use Rattle.line_walkers.proofs.walkers_part.Goals as goal

pub returns-then-p-eq0 : goal.returns-then-p-eq0
returns-then-p-eq0 c = rw c.if-p-eq0.true (sym (G_none c.args.cycle.0))

pub overflow_mul-p : goal.overflow_mul-p
overflow_mul-p c = record { fits = walked_room _ _ (omega arith) (omega arith) }

pub returns : goal.returns
unfolding G
returns c = cc
