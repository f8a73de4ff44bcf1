-- `study::widen_block`. With the size right, the block's numbers are read and widened; else nothing is.
use borrow.Author.Tests.{eq-eqb, ne_eqb}
use Rattle.study.proofs.widen_block.Goals as goal

pub returns-then-entries-ne-ENTRIES : goal.returns-then-entries-ne-ENTRIES
returns-then-entries-ne-ENTRIES c = let bad = ne_eqb _ _ c.if-entries-ne-ENTRIES.true in record {
  value = simp bad;
  entries_after = simp bad;
}

pub returns : goal.returns
returns c =
    let good = eq-eqb _ _ c.if-entries-ne-ENTRIES.false in
    record {
      value = simp good;
      entries_after = simp good (rw c.read_all.ensures at c.widen.ensures);
    }
