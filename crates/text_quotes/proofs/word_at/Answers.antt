-- `text_quotes::word_at`. Nothing past the end, else the first word from the place on.
use Prim.Native.Nat.{◌-◌}
use Rattle.text.specs.Text.{first_in}
use lib.ListN.{length, drop, length-drop, drop_of_length-le}
use lib.Seq.{take_all}
use mathlib.Core.Path.{◌∙◌}
use native.Mathlib.Omega.{arith}
use Rattle.text_quotes.proofs.word_at.Goals as goal

pub returns-then-text-place : goal.returns-then-text-place
unfolding first_in
returns-then-text-place c =
    let args = c.args in
    rw (drop_of_length-le args.text.now {i = args.place} c.if-text-place.true)

pub returns : goal.returns
returns c =
    let args = c.args in
    let text = args.text.now in
    let place = args.place in
    c.first_word.ensures ∙ rw (take_all (length text - place) (drop place text) (omega (arith, length-drop place text)))
