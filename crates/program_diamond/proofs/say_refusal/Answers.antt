-- `program_diamond::say_refusal`. The east's text is blamed for the cycle, and the word of an own number for that.
use Rattle.program_diamond.specs.Run.{cycle_text, refusal_says}
use Rattle.text.specs.Text.{ascii}
use borrow.Author.Tests.{lt-ltb, le-ltb}
use Rattle.program_diamond.proofs.say_refusal.Goals as goal

pub returns-then-place : goal.returns-then-place
unfolding refusal_says cycle_text ascii
returns-then-place c =
    rw (lt-ltb _ _ c.if-place.true) (rw c.word.ensures at c.put_named.ensures)

pub returns : goal.returns
unfolding refusal_says
returns c =
    rw (le-ltb _ _ c.if-place.false) (rw c.own_word-word.ensures at c.say_answer_of.ensures)
