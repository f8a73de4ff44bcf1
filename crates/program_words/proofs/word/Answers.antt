-- The loop's invariant: the word sought is, of those from the place on, the one that many further.
use Rattle.program_words.proofs.Laws.{one_word_more, last_word, word_is}
use mathlib.Core.Path.{sym, ◌∙◌}
use native.Mathlib.Nat.{sub-zero}
use native.Mathlib.Omega.{arith}
use Rattle.program_words.proofs.word.Goals as goal

pub loop-init : goal.loop-init
loop-init c = (omega arith, rw (sub-zero c.args.n))

pub loop-preserved : goal.loop-preserved
loop-preserved c =
    let there = c.next_after-from.ensures in
    (there.1, one_word_more _ c.loop.from c.next_after-from.result _ _ c.loop-test.true there.0 c.loop.invariant.1)

pub returns : goal.returns
returns c =
    let end = c.end_of-end.ensures.0 in
    word_is _ _ _ end ∙ sym (last_word _ c.loop.from _ _ c.loop-test.false c.loop.invariant.1)
