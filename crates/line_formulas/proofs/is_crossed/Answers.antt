use borrow.Author.Tests.{lt-ltb, le-ltb}
use Rattle.kinds.specs.declared.Group.TheVariants.{Through}
use Rattle.procedure.specs.Approach.{n}
use Rattle.procedure.specs.Lines.{crossed}
use Rattle.line_formulas.proofs.is_crossed.Goals as goal

pub returns-then-s-gt0 : goal.returns-then-s-gt0
unfolding crossed
returns-then-s-gt0 c = rw (lt-ltb 0 (n c.args.s Through) c.if-s-gt0.true)

pub returns-else-s-gt0 : goal.returns-else-s-gt0
unfolding crossed
returns-else-s-gt0 c = rw (le-ltb 0 (n c.args.s Through) c.if-s-gt0.false)
