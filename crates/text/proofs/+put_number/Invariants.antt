-- The measure of `text::put_number`, which calls itself on the tenth part: the number.
use Rattle.text.proofs.+put_number.Given as goal

abbrev pub decreases-put_number : goal.decreases-put_number
decreases-put_number l = l.number
