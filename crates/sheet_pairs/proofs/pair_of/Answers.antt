-- Each kind's own; what a single point's pair has of the lines is theirs.
use Rattle.procedure.specs.Pairs.{protected, pair_for}
use mathlib.Core.Path.{refl}
use Rattle.sheet_pairs.proofs.pair_of.Goals as goal

pub returns-in-Junction : goal.returns-in-Junction
unfolding pair_for
returns-in-Junction c = rw c.in-Junction.is record {
  result_value = c.choice_of.ensures;
  picked_value = refl;
}

pub returns-in-Point : goal.returns-in-Point
unfolding pair_for protected
returns-in-Point c =
    let told = c.protected_of.ensures in
    rw (c.in-Point.is, told.0, told.1) record {
      result_value = refl;
      picked_value = refl;
    }
