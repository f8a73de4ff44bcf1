-- `text_refusals::put_range`. The entry's name, and its kind's limits.
use Rattle.text.proofs.Laws.{placed_three}
use Rattle.text_refusals.specs.Refusals.{range_text}
use Rattle.text.specs.Text.{ascii}
use native.Mathlib.Omega.{arith}
use Rattle.text_refusals.proofs.put_range.Goals as goal

pub returns : goal.returns
unfolding range_text ascii
returns c =
    let limits = rw c.at.ensures at c.put_limits.ensures.0 in
    (placed_three c.put_entry_name-named.ensures.0 c.put_bytes-told.ensures limits (omega arith), omega arith)
