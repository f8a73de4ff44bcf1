-- A search from the first: no fault is left behind, and the first one found is answered.
use Rattle.entries.specs.Judging.{refusal_of, count_of, faulty}
use Rattle.answers.proofs.Laws.{Searched}
use Rattle.answers.specs.Answers.{refuse_if}
use Rattle.entries.proofs.check_each.Given as goal

abbrev pub invariant-loop-index : goal.invariant-loop-index
invariant-loop-index l = Searched (λ i. refuse_if (faulty l.kind l.entries l.fault i) (refusal_of l.fault) i) (count_of l.fault) l.index
