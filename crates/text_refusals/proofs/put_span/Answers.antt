-- `text_refusals::put_span`. The least, the most, and the end of the line.
use Rattle.text.proofs.Laws.{placed_after, placed_three}
use Rattle.text_refusals.specs.Refusals.{span_text}
use Rattle.text.specs.Text.{ascii}
use native.Mathlib.Omega.{arith}
use Rattle.text_refusals.proofs.put_span.Goals as goal

pub returns : goal.returns
unfolding span_text ascii
returns c =
    let limits = c.limits-limits.ensures in
    let least = rw limits.0 at c.put_value-least.ensures.0 in
    let most = rw limits.1 at c.put_value-most.ensures.0 in
    let both = placed_three least c.put_bytes-parted.ensures most (omega arith) in
    (placed_after both c.put_byte.ensures (omega arith), omega arith)
