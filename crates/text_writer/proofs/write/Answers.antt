-- `text_writer::write`. The loop's invariant: the text of the entries passed stands at the front.
use Rattle.text_writer.proofs.Laws.{length-entry_texts, no_entries, one_entry_more}
use Rattle.layout.specs.Entries.{entry_count}
use native.Mathlib.Omega.{arith}
use mathlib.Core.Path.{◌≡◌, refl}
use Rattle.text_writer.proofs.write.Goals as goal

pub loop-entry-init : goal.loop-entry-init
loop-entry-init c = (omega arith, refl, no_entries _ _)

pub put_entry-at-requires : goal.put_entry-at-requires
put_entry-at-requires c =
    let room = length-entry_texts c.args.entries.now c.loop-entry.entry in
    (omega arith, omega (arith, c.loop-entry.invariant.2.next))

pub loop-entry-preserved : goal.loop-entry-preserved
loop-entry-preserved c =
    let size = c.loop-entry.invariant.1 in
    let texts = c.loop-entry.invariant.2 in (
      omega arith,
      omega (arith, c.put_entry-at.auto.out),
      one_entry_more c.args.entries.now c.loop-entry.entry (omega arith) texts c.put_entry-at.ensures,
    )

pub returns : goal.returns
returns c =
    let whole : c.loop-entry.entry ≡ entry_count = omega arith in
    let put = rw whole at c.loop-entry.invariant.2 in
    record {
      out_after = put.is;
      value = omega (arith, put.next);
    }
