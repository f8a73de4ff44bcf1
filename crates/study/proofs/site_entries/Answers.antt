-- `study::site_entries`. The size is asked first, then the part; where it is empty the site is refused, else it is the block.
use Rattle.study_reader.proofs.Laws.{part_empty, part_there}
use Rattle.study.specs.Study.{format_of}
use Rattle.study.proofs.Laws.{block_accepted}
use borrow.Author.Tests.{eq-eqb, ne_eqb}
use Rattle.study.proofs.site_entries.Goals as goal

pub returns-then-entries-ne-ENTRIES : goal.returns-then-entries-ne-ENTRIES
returns-then-entries-ne-ENTRIES c = let bad = ne_eqb _ _ c.if-entries-ne-ENTRIES.true in record {
  value = simp bad;
  entries_after = simp bad;
}

pub returns-then-block-eq0 : goal.returns-then-block-eq0
returns-then-block-eq0 c =
    let file = c.args.file.now in
    let sized = eq-eqb _ _ c.if-entries-ne-ENTRIES.false in
    let none = rw c.site-block.ensures at c.if-block-eq0.true in
    record {
      value = simp sized c.site_answer.ensures;
      entries_after = simp sized (part_empty (format_of file) file c.args.number _ _ none);
    }

pub returns : goal.returns
returns c =
    let file = c.args.file.now in
    let number = c.args.number in
    let is = part_there (format_of file) file number (rw c.site-block.ensures at c.if-block-eq0.false) in
    let sized = eq-eqb _ _ c.if-entries-ne-ENTRIES.false in
    let good = block_accepted file number _ is c.if-entries-ne-ENTRIES.false in record {
      value = simp (sized, is) (simp (c.site-block.ensures, is, good) at c.entries_of.ensures.value);
      entries_after = simp (sized, is) (simp (c.site-block.ensures, is, good) at c.entries_of.ensures.entries_after);
    }
