use mathlib.Core.Path.{ap}
use Rattle.std.specs.Prelude.{Some}
use Rattle.line_permitted.proofs.Laws.{time_is}
use Rattle.line_permitted.proofs.weigh_if_allowed.Goals as goal

pub weigh-requires : goal.weigh-requires
weigh-requires c = (c.requires.0, c.requires.1, rw c.in_ok-reference.was at c.requires.2)

pub returns : goal.returns
returns c = rw c.in_ok-reference.was (ap Some (time_is c.weigh.ensures))
