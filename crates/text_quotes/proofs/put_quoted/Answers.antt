-- `text_quotes::put_quoted`. A quote, what is shown, what stands for the rest, and a quote.
use Rattle.text_quotes.specs.Quotes.{quoted}
use Rattle.text.proofs.Laws.{placed_after, placed_three}
use native.Mathlib.Omega.{arith}
use Rattle.text_quotes.proofs.put_quoted.Goals as goal

pub returns : goal.returns
unfolding quoted
returns c =
    let fits = c.put_byte.ensures.next in
    let start = c.put_byte-opened.ensures.next in
    let all = placed_three c.put_byte-opened.ensures c.put_shown-shown.ensures.0 c.put_rest_mark-end.ensures.0 (omega arith) in
    (placed_after all c.put_byte.ensures (omega arith), omega arith)
