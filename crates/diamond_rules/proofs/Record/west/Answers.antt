use Rattle.diamond_rules.proofs.Laws.{record_length, west_accepted}
use Rattle.diamond_rules.proofs.Record.west.Goals as goal

pub west_of-requires : goal.west_of-requires
west_of-requires c = record_length _ c.args.self.accepted

pub returns : goal.returns
returns c = (c.west_of.ensures.0, rw c.west_of.ensures.0 (west_accepted _ c.args.self.accepted))
