-- What is allowed, the plans by that, and the best of them over the west's cycle, which is both junctions'.
use Rattle.diamond_rules.specs.Lines.{plans_of}
use Rattle.procedure.proofs.Fair.{fair_cycle}
use Rattle.diamond.proofs.best_at.Goals as goal

pub plans_of-plans-requires : goal.plans_of-plans-requires
plans_of-plans-requires c = (c.travel.ensures.1, c.requires.0, c.requires.1)

pub best_of-requires : goal.best_of-requires
best_of-requires c = rw c.read_cycle-cycle.ensures (fair_cycle _ c.west.ensures.1)

pub returns : goal.returns
unfolding plans_of
returns c =
    rw (
      c.plans_of-plans.ensures,
      c.is_lagging_allowed-four.ensures,
      c.is_leadlag_allowed-two.ensures,
      c.travel.ensures.0,
      c.read_cycle-cycle.ensures,
      c.west.ensures.0,
    ) at c.best_of.ensures
