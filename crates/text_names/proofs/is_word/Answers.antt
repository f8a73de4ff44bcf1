-- `text_names::is_word`. The loop's invariant: the bytes passed agree.
use Rattle.text_names.proofs.Laws.{agrees_on, differs}
use borrow.Author.Tests.{le-leb, lt-leb}
use native.Mathlib.Omega.{arith}
use Rattle.text_names.specs.Names.{word_width, agrees, is_word}
use mathlib.Core.Path.{◌≡◌, refl}
use Rattle.text_names.proofs.is_word.Goals as goal

pub returns-then-word-gt-WIDTH : goal.returns-then-word-gt-WIDTH
unfolding is_word
returns-then-word-gt-WIDTH c = rw (lt-leb _ _ c.if-word-gt-WIDTH.true)

pub loop-i-init : goal.loop-i-init
unfolding agrees
loop-i-init c = refl

pub loop-i-preserved : goal.loop-i-preserved
loop-i-preserved c =
    agrees_on c.args.word.now c.args.row c.loop-i.i _ _ c.padded.ensures c.word_byte.ensures c.loop-i.invariant
    c.if-padded-word_byte.false

pub returns-then-padded-word_byte : goal.returns-then-padded-word_byte
unfolding is_word
returns-then-padded-word_byte c =
    rw (le-leb _ _ c.if-word-gt-WIDTH.false)
    (differs c.args.word.now c.args.row c.loop-i.i _ _ c.padded.ensures c.word_byte.ensures c.if-padded-word_byte.true word_width
    (omega arith))

pub returns : goal.returns
unfolding is_word
returns c =
    let whole : c.loop-i.i ≡ word_width = omega arith in
    rw (le-leb _ _ c.if-word-gt-WIDTH.false) (rw whole at c.loop-i.invariant)
