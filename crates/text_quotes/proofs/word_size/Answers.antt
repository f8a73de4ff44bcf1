-- `text_quotes::word_size`. The loop's invariant: no byte passed ends the word.
use Rattle.text.proofs.Laws.{first_here, first_past, first_none}
use Rattle.text_titles.specs.Blanks.{ends_word}
use native.Mathlib.Omega.{arith}
use mathlib.Core.Path.{sym, ◌∙◌}
use Rattle.text_quotes.proofs.word_size.Goals as goal

pub loop-at-init : goal.loop-at-init
loop-at-init c = (omega arith, omega arith)

pub returns-then-ends_word : goal.returns-then-ends_word
returns-then-ends_word c =
    let ends = sym c.ends_word.ensures ∙ c.if-ends_word.true in
    (first_here ends_word _ _ c.loop-at.invariant.1 (omega arith) ends, omega arith)

pub loop-at-preserved : goal.loop-at-preserved
loop-at-preserved c =
    let goes = sym c.ends_word.ensures ∙ c.if-ends_word.false in
    (omega arith, first_past ends_word _ _ c.loop-at.invariant.1 (omega arith) goes)

pub returns : goal.returns
returns c = (first_none ends_word _ _ c.loop-at.invariant.1 (omega arith), omega arith)
