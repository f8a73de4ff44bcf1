-- `lists::put`. The loop has copied so many numbers; at its end, all.
use Rattle.lists.proofs.Laws.{Copied}
use Rattle.lists.proofs.put.Given as goal

abbrev pub invariant-loop-i : goal.invariant-loop-i
invariant-loop-i l = Copied l.initial.list l.at l.part l.list l.i
