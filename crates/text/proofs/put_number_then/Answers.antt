-- `text::put_number_then`. The byte stands just past the number.
use Rattle.text.proofs.Laws.{length_then, placed_then}
use native.Mathlib.Omega.{arith}
use Rattle.text.proofs.put_number_then.Goals as goal

pub put_number-end-requires : goal.put_number-end-requires
put_number-end-requires c = omega (arith, length_then c.args.number c.args.byte)

pub put_byte-requires : goal.put_byte-requires
put_byte-requires c =
    let args = c.args in
    omega (arith, length_then args.number args.byte)

pub returns : goal.returns
returns c =
    placed_then _ _ c.requires c.put_number-end.ensures c.put_byte.ensures
