-- `text_refusals::put_outside`. What it is, and its kind's limits.
use Rattle.text.proofs.Laws.{placed_three}
use Rattle.text_refusals.specs.Refusals.{outside_text}
use Rattle.text.specs.Text.{ascii}
use native.Mathlib.Omega.{arith}
use Rattle.text_refusals.proofs.put_outside.Goals as goal

pub returns : goal.returns
unfolding outside_text ascii
returns c =
    let what = c.put_bytes-named.ensures in
    let told = c.put_bytes-told.ensures in
    (placed_three what told c.put_limits.ensures.0 (omega (arith, what.next, told.next)), omega (arith, what.next, told.next))
