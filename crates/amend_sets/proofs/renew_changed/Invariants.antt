-- Change by change: of the cells that some change reaches, those that the changes left reach are still old.
use Rattle.amend_sets.proofs.Changes.{Renewed}
use Rattle.amend_sets.proofs.renew_changed.Given as goal

abbrev pub invariant-loop-n : goal.invariant-loop-n
invariant-loop-n l = Renewed l.changes l.kind l.fresh l.initial.sheet l.sheet l.n
