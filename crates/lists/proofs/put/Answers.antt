-- `lists::put`. The loop has copied so many numbers; at its end, all.
use Rattle.lists.proofs.Laws.{copied_none, copied_more, copied_all}
use Rattle.lists.proofs.put.Goals as goal

pub loop-i-init : goal.loop-i-init
loop-i-init c = copied_none _ _ _

pub loop-i-preserved : goal.loop-i-preserved
loop-i-preserved c = copied_more c.requires c.loop-i-test.true c.loop-i.invariant

pub returns : goal.returns
returns c = copied_all c.loop-i-test.false c.loop-i.invariant
