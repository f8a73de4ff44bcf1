-- `text_names::put_word`. The loop's invariant: the word of the bytes passed stands at the place.
use lib.ListN.{length}
use Rattle.text_names.specs.Names.{word_in}
use Rattle.text.specs.Text.{Placed}
use mathlib.Core.Path.{◌≡◌}
use Rattle.text_names.proofs.put_word.Given as goal

abbrev pub invariant-loop-i : goal.invariant-loop-i
invariant-loop-i l = (length l.out ≡ length l.initial.out) × Placed l.initial.out l.at (word_in l.row l.i) l.out l.end
