use Rattle.diamond_rules.specs.Record.{east}
use Rattle.diamond_rules.proofs.Laws.{east-length}
use mathlib.Core.Path.{refl}
use Rattle.diamond_rules.proofs.east_of.Goals as goal

pub returns : goal.returns
unfolding east
returns c = (refl, east-length c.args.numbers.now c.requires)
