-- The loop's invariant: the bytes passed are those of the page, the others are as they were.
use mathlib.Core.Path.{◌≡◌, refl, ◌∙◌}
use lib.ListN.{length}
use native.Mathlib.Omega.{arith}
use Rattle.lists.specs.Lists.{table}
use Rattle.lists.proofs.Laws.{filled_more, filled_all}
use Rattle.diamond_page.specs.Page.{page_bytes}
use Rattle.diamond_page.proofs.print.Goals as goal

pub loop-i-init : goal.loop-i-init
unfolding table
loop-i-init c = refl

pub loop-i-preserved : goal.loop-i-preserved
loop-i-preserved c = rw (c.row_byte.ensures, c.loop-i.invariant) (filled_more _ _ c.loop-i.i (omega arith))

pub returns : goal.returns
returns c =
    let long : length c.args.out.now ≡ page_bytes = omega arith in
    let end : c.loop-i.i ≡ length c.args.out.now = omega arith in
    c.loop-i.invariant ∙ rw (end, filled_all, long)
