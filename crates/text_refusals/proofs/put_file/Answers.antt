-- `text_refusals::put_file`. Bytes that are no study file; or the words and the byte's place, and the end of the line.
use Rattle.text.proofs.Laws.{placed_after}
use Rattle.text_refusals.specs.Refusals.{file_text}
use Rattle.text.specs.Text.{ascii}
use borrow.Author.Tests.{eq-eqb, ne_eqb}
use native.Mathlib.Omega.{arith}
use Rattle.text_refusals.proofs.put_file.Goals as goal

pub returns-then-place-eq0 : goal.returns-then-place-eq0
unfolding file_text ascii
returns-then-place-eq0 c =
    (rw (eq-eqb _ _ c.if-place-eq0.true) c.put_bytes.ensures, omega arith)

pub returns : goal.returns
unfolding file_text ascii
returns c = (
  rw (ne_eqb _ _ c.if-place-eq0.false) (placed_after c.put_numbered-end.ensures.placed c.put_byte.ensures (omega arith)),
  omega arith,
)
