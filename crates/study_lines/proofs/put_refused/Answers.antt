-- `study_lines::put_refused`. The number, the mark, the refusal's number, the place.
use native.Mathlib.Omega.{arith}
use Rattle.text.proofs.Laws.{number_fits, number_past}
use Rattle.study_lines.proofs.Laws.{refused_placed}
use Rattle.study_lines.proofs.put_refused.Goals as goal

pub put_number_then-numbered-requires : goal.put_number_then-numbered-requires
put_number_then-numbered-requires c = number_fits _ _ _ _ (omega arith)

pub put_byte-marked-requires : goal.put_byte-marked-requires
put_byte-marked-requires c = omega (arith, number_past _ _ c.put_number_then-numbered.ensures)

pub put_number_then-refused-requires : goal.put_number_then-refused-requires
put_number_then-refused-requires c =
    number_fits _ _ _ _ (omega (arith, number_past _ _ c.put_number_then-numbered.ensures))

pub put_number_then-requires : goal.put_number_then-requires
put_number_then-requires c =
    let past = number_past _ _ c.put_number_then-numbered.ensures in
    number_fits _ _ _ _ (omega (arith, past, number_past _ _ c.put_number_then-refused.ensures))

pub returns : goal.returns
returns c =
    let args = c.args in
    let is = rw c.number-refusal.ensures at c.put_number_then-refused.ensures in
    let put = refused_placed args.number c.requires c.put_number_then-numbered.ensures args.site.why args.site.place in
    put c.put_byte-marked.ensures is c.put_number_then.ensures
