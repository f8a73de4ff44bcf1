-- `text_writer::put_opening`. Nothing, or the title and a space.
use Rattle.text_writer.proofs.Laws.{number_past, no_opening, opening_put}
use Rattle.text_names.proofs.Laws.{in_place}
use mathlib.Core.Path.{sym, ◌∙◌}
use native.Mathlib.Omega.{arith}
use Rattle.text_writer.proofs.put_opening.Goals as goal

pub returns-then-not-is_first : goal.returns-then-not-is_first
returns-then-not-is_first c =
    no_opening c.args.entry (sym c.is_first.ensures ∙ c.if-not-is_first.true)

pub put_word-end-requires : goal.put_word-end-requires
put_word-end-requires c =
    (rw c.title_of.ensures (omega (arith, (in_place c.args.entry c.requires.0).title)), omega arith)

pub put_byte-requires : goal.put_byte-requires
put_byte-requires c = omega (arith, number_past _ c.put_word-end.ensures)

pub returns : goal.returns
returns c =
    let named = rw c.title_of.ensures at c.put_word-end.ensures in
    opening_put c.args.entry (sym c.is_first.ensures ∙ c.if-not-is_first.false) c.requires.1 named
    c.put_byte.ensures
