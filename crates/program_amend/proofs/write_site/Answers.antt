use Rattle.text.proofs.Laws.{placed_nothing}
use native.Mathlib.Omega.{arith}
use Rattle.program_amend.proofs.write_site.Goals as goal

pub put-requires : goal.put-requires
put-requires c =
    let pre = c.requires in
    (pre.0, pre.1 c.if-kept.true, omega arith)

pub returns-then-kept : goal.returns-then-kept
returns-then-kept c = rw c.if-kept.true c.put.ensures

pub returns : goal.returns
returns c = rw c.if-kept.false (placed_nothing _ 0)
