-- `text_phrases::put_named`. The words stand just past the name.
use Rattle.text.proofs.Laws.{placed_after}
use native.Mathlib.Omega.{arith}
use Rattle.text_phrases.proofs.put_named.Goals as goal

pub returns : goal.returns
returns c =
    (placed_after c.put_name-named.ensures.0 c.put_bytes.ensures (omega arith), omega arith)
