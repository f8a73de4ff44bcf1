-- `study_reader::entries_of`. With the sizes right, the block's numbers are read; else nothing is.
use borrow.Author.Tests.{eq-eqb, ne_eqb}
use mathlib.Core.Path.{◌∙◌}
use Rattle.study_reader.proofs.entries_of.Goals as goal

pub returns-then-block-block_bytes : goal.returns-then-block-block_bytes
returns-then-block-block_bytes c = let bad = ne_eqb _ _ (rw c.block_bytes.ensures at c.if-block-block_bytes.true) in record {
  value = simp bad;
  entries_after = simp bad;
}

pub returns-then-entries-format : goal.returns-then-entries-format
returns-then-entries-format c =
    let good = eq-eqb _ _ (c.if-block-block_bytes.false ∙ c.block_bytes.ensures) in
    let bad = ne_eqb _ _ c.if-entries-format.true in record {
      value = simp (good, bad);
      entries_after = simp (good, bad);
    }

pub returns : goal.returns
returns c =
    let good = eq-eqb _ _ (c.if-block-block_bytes.false ∙ c.block_bytes.ensures) in
    let right = eq-eqb _ _ c.if-entries-format.false in
    record {
      value = simp (good, right);
      entries_after = simp (good, right) (c.read_all.ensures ∙ rw c.if-entries-format.false);
    }
