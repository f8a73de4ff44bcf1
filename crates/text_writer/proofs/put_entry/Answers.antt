-- `text_writer::put_entry`. The entry's name, its value, and the byte past it.
use Rattle.text_writer.specs.Writer.{entry_text}
use Rattle.text.proofs.Laws.{placed_three}
use native.Mathlib.Omega.{arith}
use Rattle.text_writer.proofs.put_entry.Goals as goal

pub returns : goal.returns
unfolding entry_text
returns c =
    let value = rw c.at.ensures at c.put_value-end.ensures.0 in
    let byte = rw c.closing-byte.ensures at c.put_byte.ensures in
    placed_three c.put_named-named.ensures.0 value byte (omega (arith, byte.next))
