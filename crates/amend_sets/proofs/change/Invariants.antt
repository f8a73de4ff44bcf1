-- Change by change: those left, made of the entries as they stand, make the same.
use Rattle.amend_sets.proofs.Changes.{Made}
use Rattle.amend_sets.proofs.change.Given as goal

abbrev pub invariant-loop-n : goal.invariant-loop-n
invariant-loop-n l = Made l.changes l.initial.entries l.entries l.n
