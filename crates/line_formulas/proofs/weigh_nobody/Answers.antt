use mathlib.Core.Path.{sym, ◌∙◌}
use native.Mathlib.Omega.{arith}
use Rattle.line_formulas.proofs.weigh_nobody.Goals as goal

pub weigh-requires : goal.weigh-requires
weigh-requires c = (c.requires.0, c.requires.1, omega arith)

pub returns-then-is_crossed : goal.returns-then-is_crossed
returns-then-is_crossed c = rw (sym c.is_crossed.ensures ∙ c.if-is_crossed.true) c.weigh.ensures

pub returns : goal.returns
returns c = rw (sym c.is_crossed.ensures ∙ c.if-is_crossed.false)
