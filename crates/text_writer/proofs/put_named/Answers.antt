-- `text_writer::put_named`. The opening, the entry's name, and a space.
use Rattle.text_writer.proofs.Laws.{number_past, opening_past}
use Rattle.text_writer.specs.Writer.{named}
use Rattle.text.proofs.Laws.{placed_three}
use native.Mathlib.Omega.{arith}
use Rattle.text_writer.proofs.put_named.Goals as goal

pub put_word-end-requires : goal.put_word-end-requires
put_word-end-requires c = (omega arith, omega (arith, opening_past _ c.put_opening-opened.ensures))

pub put_byte-requires : goal.put_byte-requires
put_byte-requires c =
    omega (arith, number_past _ c.put_word-end.ensures, opening_past _ c.put_opening-opened.ensures)

pub returns : goal.returns
unfolding named
returns c =
    let name = rw c.kind_of-row.ensures.0 at c.put_word-end.ensures in
    let end = number_past _ c.put_word-end.ensures in
    let start = opening_past _ c.put_opening-opened.ensures in
    let last = c.put_byte.ensures.next in
    (placed_three c.put_opening-opened.ensures name c.put_byte.ensures (omega arith), omega arith)
