-- The tables are the definitions' own lists; below their lengths it is no matter what stands past them.
use Rattle.kinds.specs.Kinds.{kind_at}
use Rattle.kinds.specs.declared.Kind.{Kind}
use Rattle.kinds.specs.declared.Kind.TheVariants.{Lanes, Volume, IdealFlow, LostTime, MinimumGreen, LaneFactor, Cycle}
use Rattle.kinds.specs.declared.Kind.TheVariants.{SharedLane, Pedestrians, PushButton, PedestrianTime, FreeRight}
use Rattle.layout.specs.Entries.{movement_entries, approaches_from, approach_entries}
use Rattle.std.proofs.Common.{◌-◌, ◌%◌, ◌<◌, List, [], ◌∷◌, arith}
use Rattle.std.proofs.lemmas.List.{get_or_default}
use borrow.Author.Tests.{lt-ltb, le-ltb}
use Rattle.kinds.proofs.Kind.at.Goals as goal

abbrev of_movement : List Kind
of_movement = Lanes ∷ Volume ∷ IdealFlow ∷ LostTime ∷ MinimumGreen ∷ LaneFactor ∷ []

abbrev of_approach : List Kind
of_approach = SharedLane ∷ Pedestrians ∷ PushButton ∷ PedestrianTime ∷ FreeRight ∷ []

pub returns-then-entry-lt-APPROACHES_FROM : goal.returns-then-entry-lt-APPROACHES_FROM
unfolding kind_at
returns-then-entry-lt-APPROACHES_FROM c =
    let h : c.args.entry % movement_entries < movement_entries = omega arith in
    rw (lt-ltb _ _ c.if-entry-lt-APPROACHES_FROM.true) (get_or_default of_movement (c.args.entry % movement_entries) Lanes Cycle h)

pub returns-then-entry-lt-CYCLE_ENTRY : goal.returns-then-entry-lt-CYCLE_ENTRY
unfolding kind_at
returns-then-entry-lt-CYCLE_ENTRY c =
    let j = (c.args.entry - approaches_from) % approach_entries in
    let h : (c.args.entry - approaches_from) % approach_entries < approach_entries = omega arith in
    rw (le-ltb _ _ c.if-entry-lt-APPROACHES_FROM.false, lt-ltb _ _ c.if-entry-lt-CYCLE_ENTRY.true) (get_or_default of_approach j Lanes Cycle h)

pub returns : goal.returns
unfolding kind_at
returns c = rw (le-ltb _ _ c.if-entry-lt-APPROACHES_FROM.false, le-ltb _ _ c.if-entry-lt-CYCLE_ENTRY.false)
