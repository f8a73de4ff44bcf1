use Rattle.program_words.proofs.Laws.{next_is, none_next}
use native.Mathlib.Omega.{arith}
use Rattle.program_words.proofs.next_after.Goals as goal

pub returns-then-end-words : goal.returns-then-end-words
returns-then-end-words c = (next_is _ _ _ c.end_of-end.ensures.0, omega arith)

pub returns : goal.returns
returns c = (none_next _ _ _ c.end_of-end.ensures.0 c.if-end-words.false, omega arith)
