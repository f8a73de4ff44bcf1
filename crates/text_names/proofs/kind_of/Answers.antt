use native.Mathlib.Omega.{arith}
use Rattle.text_names.proofs.kind_of.Goals as goal

pub returns : goal.returns
returns c = (rw (← c.of_entry-class.ensures.is, c.number.ensures.0), omega arith)

pub number-requires : goal.number-requires
number-requires c = c.of_entry-class.ensures
