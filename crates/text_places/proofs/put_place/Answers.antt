-- `text_places::put_place`. The line, the column, and what parts them from what follows.
use Rattle.text.proofs.Laws.{placed_three}
use Rattle.text_places.specs.Places.{place_text}
use Rattle.text.specs.Text.{ascii}
use native.Mathlib.Omega.{arith}
use Rattle.text_places.proofs.put_place.Goals as goal

pub returns : goal.returns
unfolding place_text ascii
returns c =
    let within = c.within.ensures in
    let line = rw (c.position_of-position.ensures.0, within) at c.put_numbered-lined.ensures.placed in
    let column = rw (c.position_of-position.ensures.1, within) at c.put_numbered-placed.ensures.placed in
    (placed_three line column c.put_bytes.ensures (omega arith), omega arith)
