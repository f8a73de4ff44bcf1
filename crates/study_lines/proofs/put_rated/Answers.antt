-- `study_lines::put_rated`. The number, the ICU, and what follows it.
use Rattle.text.proofs.Laws.{number_fits, number_past}
use native.Mathlib.Omega.{arith}
use Rattle.study_lines.proofs.Laws.{rated_placed}
use Rattle.study_lines.proofs.put_rated.Goals as goal

pub put_number_then-numbered-requires : goal.put_number_then-numbered-requires
put_number_then-numbered-requires c = number_fits _ _ _ _ (omega arith)

pub put_number_then-rated-requires : goal.put_number_then-rated-requires
put_number_then-rated-requires c = number_fits _ _ _ _ (omega (arith, number_past _ _ c.put_number_then-numbered.ensures))

pub put_bytes-requires : goal.put_bytes-requires
put_bytes-requires c =
    omega (arith, number_past _ _ c.put_number_then-numbered.ensures, number_past _ _ c.put_number_then-rated.ensures)

pub returns : goal.returns
returns c =
    let args = c.args in
    let letter = c.letter_byte-letter.ensures in
    let is = rw (letter, c.phasing_byte-first.ensures, c.phasing_byte-second.ensures) at c.put_bytes.ensures in
    rated_placed args.number c.requires.1 c.put_number_then-numbered.ensures args.rating c.put_number_then-rated.ensures is
