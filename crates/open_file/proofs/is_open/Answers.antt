use Rattle.open_file.specs.File.{is_open}
use borrow.Author.Tests.{eq-eqb, ne_eqb}
use Rattle.open_file.proofs.is_open.Goals as goal

pub returns-then-file-ne-OPEN_BYTES : goal.returns-then-file-ne-OPEN_BYTES
unfolding is_open
returns-then-file-ne-OPEN_BYTES c = rw (ne_eqb _ _ c.if-file-ne-OPEN_BYTES.true)

pub returns : goal.returns
unfolding is_open
returns c =
    rw (eq-eqb _ _ c.if-file-ne-OPEN_BYTES.false, c.read.ensures, c.read-2.ensures)
