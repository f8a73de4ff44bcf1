use Rattle.diamond_rules.specs.Record.{west}
use Rattle.diamond_rules.proofs.Laws.{west-length}
use mathlib.Core.Path.{refl}
use Rattle.diamond_rules.proofs.west_of.Goals as goal

pub returns : goal.returns
unfolding west
returns c = (refl, west-length c.args.numbers.now c.requires)
