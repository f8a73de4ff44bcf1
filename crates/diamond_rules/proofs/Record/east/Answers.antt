use Rattle.diamond_rules.proofs.Laws.{record_length, east_accepted}
use Rattle.diamond_rules.proofs.Record.east.Goals as goal

pub east_of-requires : goal.east_of-requires
east_of-requires c = record_length _ c.args.self.accepted

pub returns : goal.returns
returns c = (c.east_of.ensures.0, rw c.east_of.ensures.0 (east_accepted _ c.args.self.accepted))
