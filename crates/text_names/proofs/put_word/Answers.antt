-- `text_names::put_word`. The loop's invariant: the word of the bytes passed stands at the place.
use Rattle.text_names.proofs.Laws.{length-word_in, word_none, word_blank, word_more}
use native.Mathlib.Omega.{arith}
use Rattle.text_names.specs.Names.{word_width}
use mathlib.Core.Path.{◌≡◌, refl}
use Rattle.text_names.proofs.put_word.Goals.{else-byte-ne32, then-byte-ne32}
use Rattle.text_names.proofs.put_word.Goals as goal

pub loop-i-init : goal.loop-i-init
loop-i-init c = (refl, word_none _ _ _)

pub put_byte-end-requires : goal.put_byte-end-requires
put_byte-end-requires c =
    omega (arith, length-word_in c.args.row c.loop-i.i, c.loop-i.invariant.1.next, c.loop-i.invariant.0)

pub loop-i-preserved : goal.loop-i-preserved
loop-i-preserved c =
    let row = c.args.row in
    let byte = c.word_byte-byte in (
      (elim c.if-byte-ne32.branch [
        | then-byte-ne32 w ↦ rw w.out-is (omega (arith, w.put_byte-end.auto.out, c.loop-i.invariant.0))
        | else-byte-ne32 w ↦ rw w.out-is c.loop-i.invariant.0
      ]),
      (elim c.if-byte-ne32.branch [
        | then-byte-ne32 w ↦ rw (w.out-is, w.end-is) (word_more row c.loop-i.i _ byte.ensures c.loop-i.invariant.1 w.if-byte-ne32.true (omega arith) w.put_byte-end.ensures)
        | else-byte-ne32 w ↦ rw (w.out-is, w.end-is) (word_blank row c.loop-i.i _ byte.ensures c.loop-i.invariant.1 w.if-byte-ne32.false)
      ]),
    )

pub returns : goal.returns
returns c =
    let whole : c.loop-i.i ≡ word_width = omega arith in
    rw whole at c.loop-i.invariant.1
