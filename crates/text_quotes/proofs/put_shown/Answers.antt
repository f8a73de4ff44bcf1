-- `text_quotes::put_shown`. The loop's invariant: the bytes passed are shown.
use Rattle.text_quotes.specs.Quotes.{shown_most, shown}
use Rattle.lists.specs.Lists.{table}
use Rattle.lists.proofs.Laws.{length-table, table_more}
use Rattle.text.proofs.Laws.{placed_nothing, placed_next}
use lib.ListN.{length}
use native.Mathlib.Omega.{arith}
use mathlib.Core.Path.{◌≡◌, refl}
use Prim.Native.Nat.{min}
use Rattle.text_quotes.proofs.put_shown.Invariants.{byte_of}
use Rattle.text_quotes.proofs.put_shown.Goals as goal

pub loop-i-init : goal.loop-i-init
unfolding table
loop-i-init c = (omega arith, refl, placed_nothing _ _)

pub put_byte-end-requires : goal.put_byte-end-requires
put_byte-end-requires c =
    let word = c.args.word.now in
    omega (arith, c.loop-i.invariant.2.next, length-table (byte_of word) c.loop-i.i, c.shown_size-size.ensures)

pub loop-i-preserved : goal.loop-i-preserved
loop-i-preserved c =
    let size = c.shown_size-size.ensures in
    let word = c.args.word.now in
    let i = c.loop-i.i in
    let before = c.loop-i.invariant.2 in
    let byte = rw c.shown_byte.ensures at c.put_byte-end.ensures in
    let few = length-table (byte_of word) i in (
      omega arith,
      omega (arith, c.put_byte-end.auto.out, c.loop-i.invariant.1),
      rw (table_more (byte_of word) i) (placed_next before byte (omega (arith, few, size))),
    )

pub returns : goal.returns
unfolding shown
returns c =
    let word = c.args.word.now in
    let whole : c.loop-i.i ≡ min (length word) shown_most = omega (arith, c.shown_size-size.ensures) in
    let put = rw whole at c.loop-i.invariant.2 in
    (put, omega (arith, put.next, length-table (byte_of word) (min (length word) shown_most)))
