-- `text_quotes::word_size`. The loop's invariant: no byte passed ends the word.
use Rattle.text.proofs.Laws.{Searched}
use Rattle.text_titles.specs.Blanks.{ends_word}
use lib.ListN.{length}
use Prim.Native.Nat.{◌≤◌, ◌-◌}
use Rattle.text_quotes.proofs.word_size.Given as goal

abbrev pub invariant-loop-at : goal.invariant-loop-at
invariant-loop-at l = (l.at ≤ length l.text) × Searched ends_word l.text l.at

abbrev pub decreases-loop-at : goal.decreases-loop-at
decreases-loop-at l = length l.text - l.at
