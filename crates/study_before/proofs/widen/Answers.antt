-- The loop's invariant: the entries passed are those of today, the others are as they were.
use Rattle.lists.proofs.Laws.{filled_more, filled_all}
use Rattle.lists.specs.Lists.{table}
use Rattle.study_before.specs.Before.{widened_at, widened}
use lib.ListN.{length}
use native.Mathlib.Omega.{arith}
use mathlib.Core.Path.{◌≡◌, refl, ap, ◌∙◌}
use Rattle.study_before.proofs.widen.Goals as goal

pub loop-i-init : goal.loop-i-init
unfolding table
loop-i-init c = refl

pub loop-i-preserved : goal.loop-i-preserved
loop-i-preserved c = rw (c.widened_at.ensures, c.loop-i.invariant) (filled_more _ _ c.loop-i.i (omega arith))

pub returns : goal.returns
unfolding widened
returns c =
    let list = c.args.entries.now in
    let end : c.loop-i.i ≡ length list = omega arith in
    let today = widened_at c.args.before.now in
    c.loop-i.invariant ∙ rw end (filled_all today list) ∙ ap (table today) c.requires.1
