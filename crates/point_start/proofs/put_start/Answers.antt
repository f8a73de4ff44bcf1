-- The loop's invariant: the entries passed have their starting values, the others are as they were.
use mathlib.Core.Path.{◌≡◌, refl, ◌∙◌}
use lib.ListN.{length}
use native.Mathlib.Omega.{arith}
use Rattle.lists.specs.Lists.{table}
use Rattle.lists.proofs.Laws.{filled_more, filled_all}
use Rattle.point_start.specs.Start.{start_entries}
use Rattle.point_start.proofs.put_start.Goals as goal

pub loop-i-init : goal.loop-i-init
unfolding table
loop-i-init c = refl

pub loop-i-preserved : goal.loop-i-preserved
loop-i-preserved c = rw (c.start_at.ensures, c.loop-i.invariant) (filled_more _ _ c.loop-i.i (omega arith))

pub returns : goal.returns
unfolding start_entries
returns c =
    let end : c.loop-i.i ≡ length c.args.entries.now = omega (arith, c.requires) in
    c.loop-i.invariant ∙ rw (end, filled_all, c.requires)
