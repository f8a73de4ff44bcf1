-- The loop's invariant: the numbers passed are read, the others are as they were.
use Rattle.lists.proofs.Laws.{filled_more, filled_all}
use Rattle.lists.specs.Lists.{table}
use lib.ListN.{length}
use native.Mathlib.Omega.{arith}
use mathlib.Core.Path.{◌≡◌, refl, ◌∙◌}
use Rattle.study_numbers.proofs.read_all.Goals as goal

pub loop-i-init : goal.loop-i-init
unfolding table
loop-i-init c = refl

pub loop-i-preserved : goal.loop-i-preserved
loop-i-preserved c = rw (c.read.ensures, c.loop-i.invariant) (filled_more _ _ c.loop-i.i (omega arith))

pub returns : goal.returns
returns c =
    let list = c.args.numbers.now in
    let end : c.loop-i.i ≡ length list = omega arith in
    c.loop-i.invariant ∙ rw end (filled_all _ list)
