-- `program_record::take_words`. The loop's invariant: the words passed are values, which stand in the record.
use Rattle.program_record.proofs.Laws.{Taken}
use Rattle.program_record.proofs.take_words.Given as goal

abbrev pub invariant-loop-k : goal.invariant-loop-k
invariant-loop-k l = Taken l.words l.initial.numbers l.initial.said l.numbers l.said l.k
