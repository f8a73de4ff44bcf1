-- Change by change: the answer is that of those left.
use Rattle.amend_sets.proofs.Changes.{Checked}
use Rattle.amend_sets.proofs.check_entries.Given as goal

abbrev pub invariant-loop-n : goal.invariant-loop-n
invariant-loop-n l = Checked l.changes l.n
