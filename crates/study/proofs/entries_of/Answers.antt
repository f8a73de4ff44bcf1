-- `study::entries_of`. A block of before by its size; else as a block of today.
use borrow.Author.Tests.{eq-eqb, ne_eqb}
use Rattle.study.specs.Study.{block_answer, block_entries}
use Rattle.study.proofs.entries_of.Goals as goal

pub returns-then-block-eq-BEFORE_BYTES : goal.returns-then-block-eq-BEFORE_BYTES
unfolding block_answer block_entries
returns-then-block-eq-BEFORE_BYTES c =
    let before = eq-eqb _ _ c.if-block-eq-BEFORE_BYTES.true in
    record {
      value = rw before c.widen_block.ensures.value;
      entries_after = rw before c.widen_block.ensures.entries_after;
    }

pub returns : goal.returns
unfolding block_answer block_entries
returns c =
    let today = ne_eqb _ _ c.if-block-eq-BEFORE_BYTES.false in
    record {
      value = rw today c.entries_of.ensures.value;
      entries_after = rw today c.entries_of.ensures.entries_after;
    }
