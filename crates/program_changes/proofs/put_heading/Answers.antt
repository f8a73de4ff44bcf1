-- `program_changes::put_heading`. With several changes the number is put between two texts; with one, nothing.
use Rattle.text.proofs.Laws.{placed_after, placed_nothing}
use Rattle.text.specs.Text.{ascii}
use Rattle.program_changes.specs.Changes.{heading}
use native.Mathlib.Omega.{arith}
use Rattle.program_changes.proofs.put_heading.Goals as goal

pub returns-then-several : goal.returns-then-several
unfolding heading ascii
returns-then-several c =
    rw c.if-several.true
    (placed_after c.put_numbered-end.ensures.placed c.put_bytes.ensures (omega arith), omega arith)

pub returns : goal.returns
unfolding heading
returns c = rw c.if-several.false (placed_nothing _ _, omega arith)
