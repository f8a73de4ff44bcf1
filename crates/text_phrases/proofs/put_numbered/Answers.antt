-- `text_phrases::put_numbered`. The number stands just past the words.
use Rattle.text.proofs.Laws.{length-decimal, placed_after}
use Rattle.text_phrases.specs.Phrases.{numbered}
use native.Mathlib.Omega.{arith}
use Rattle.text_phrases.proofs.put_numbered.Goals as goal

pub put_number-requires : goal.put_number-requires
put_number-requires c = omega (arith, length-decimal c.args.number)

pub returns : goal.returns
unfolding numbered
returns c =
    let digits = length-decimal c.args.number in
    record {
      placed = placed_after c.put_bytes-end.ensures c.put_number.ensures (omega (arith, digits));
      most = omega (arith, digits);
    }
