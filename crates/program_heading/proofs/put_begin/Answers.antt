use Rattle.text.proofs.Laws.{placed_after}
use native.Mathlib.Omega.{arith}
use Rattle.program_heading.proofs.put_begin.Goals as goal

pub returns : goal.returns
returns c =
    (placed_after c.put_feed-fed.ensures.0 c.put_worksheet.ensures.0 (omega arith), omega arith)
