-- `text_troubles::put_unknown`. The word, and the sentence past it.
use Rattle.text.specs.Text.{ascii}
use Rattle.text.proofs.Laws.{placed_after}
use native.Mathlib.Omega.{arith}
use Rattle.text_troubles.proofs.put_unknown.Goals as goal

pub returns : goal.returns
unfolding ascii
returns c =
    let put = c.put_bytes.ensures in
    (placed_after c.put_quoted-end.ensures.0 put (omega (arith, put.next)), omega (arith, put.next))
