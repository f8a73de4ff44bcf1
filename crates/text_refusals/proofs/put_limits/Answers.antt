-- `text_refusals::put_limits`. What stands apart, and the range.
use Rattle.text.proofs.Laws.{placed_after}
use Rattle.text_refusals.specs.Refusals.{limits_text}
use native.Mathlib.Omega.{arith}
use Rattle.text_refusals.proofs.put_limits.Goals as goal

pub returns : goal.returns
unfolding limits_text
returns c =
    (placed_after c.put_apart-told.ensures.0 c.put_span.ensures.0 (omega arith), omega arith)
