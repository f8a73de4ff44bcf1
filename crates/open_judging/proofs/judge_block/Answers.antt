use Rattle.open_judging.proofs.judge_block.Goals as goal

pub returns : goal.returns
returns c = rw (c.judge.ensures, c.copy_from_slice.ensures.after, c.block.ensures.0)
