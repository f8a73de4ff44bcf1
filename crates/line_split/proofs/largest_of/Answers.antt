-- Without folded lefts line 27 is the larger reference time by a law; else the three parts as defined.
use Rattle.line_split.proofs.Laws.{line27_alike}
use Rattle.procedure.specs.Lines.{b, line27}
use Rattle.kinds.specs.declared.Group.TheVariants.{Through}
use Rattle.line_bounds.proofs.Order.{larger}
use Rattle.line_bounds.proofs.Times.{straight_passes, lefts_pass, interference_most}
use mathlib.Core.Path.{◌≡◌}
use native.Mathlib.Nat.{add-zero}
use native.Mathlib.Omega.{arith}
use Rattle.line_split.proofs.largest_of.Goals as goal

pub returns-then-x-eq0 : goal.returns-then-x-eq0
returns-then-x-eq0 c =
    let none : b c.args.s ≡ 0 = rw c.requires.1 at c.if-x-eq0.true in
    rw (larger c.args.x.times.through c.args.x.times.left c.max.ensures, line27_alike c.args.s c.args.cycle.0 none, c.requires.1)

pub part_time-straight-requires : goal.part_time-straight-requires
part_time-straight-requires c =
    rw c.requires.1 (straight_passes _ _ c.requires.0 c.requires.2, interference_most _ _ Through)

pub part_time-lefts-requires : goal.part_time-lefts-requires
part_time-lefts-requires c =
    rw c.requires.1 (lefts_pass _ _ c.requires.0 c.requires.2, omega arith)

pub returns : goal.returns
unfolding line27
returns c =
    rw (
      larger c.args.x.times.through c.max-2.result c.max-3.ensures,
      larger c.part_time-straight.result c.part_time-lefts.result c.max-2.ensures,
      c.part_time-lefts.ensures,
      c.part_time-straight.ensures,
      add-zero,
      c.requires.1,
    )
