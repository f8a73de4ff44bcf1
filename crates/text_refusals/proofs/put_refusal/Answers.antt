-- `text_refusals::put_refusal`. The refusal's number, and what it means.
use Rattle.text.proofs.Laws.{placed_three}
use Rattle.text_refusals.specs.Refusals.{refusal_text}
use Rattle.text.specs.Text.{ascii}
use native.Mathlib.Omega.{arith}
use Rattle.text_refusals.proofs.put_refusal.Goals as goal

pub returns : goal.returns
unfolding refusal_text ascii
returns c =
    let number = rw c.number.ensures at c.put_numbered-numbered.ensures.placed in
    (placed_three number c.put_bytes-parted.ensures c.put_why.ensures.0 (omega arith), omega arith)
