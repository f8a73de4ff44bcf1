use Rattle.line_decay.proofs.First.{rule}
use Rattle.line_decay.proofs.ended.Goals as goal

pub returns : goal.returns
returns c = rule c.args.r c.args.j c.requires
