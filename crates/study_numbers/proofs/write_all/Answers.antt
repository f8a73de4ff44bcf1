-- The loop's invariant: the numbers passed stand packed from the place on.
use Rattle.study_numbers.proofs.Laws.{packed_none, packed_more}
use lib.Seq.{take-suc, take-length, length-take-le}
use lib.ListN.{length, take, get_or}
use native.Mathlib.Numerals.{add-one}
use native.Mathlib.Omega.{arith}
use mathlib.Core.Path.{◌≡◌, ◌∙◌}
use Rattle.study_numbers.proofs.write_all.Goals as goal

pub loop-i-init : goal.loop-i-init
loop-i-init c = packed_none _ _

pub loop-i-preserved : goal.loop-i-preserved
loop-i-preserved c =
    let args = c.args in
    let i = c.loop-i.i in
    let numbers = args.numbers.now in
    c.write.ensures
    ∙ rw (c.loop-i.invariant, add-one i, take-suc numbers i 0 (omega arith))
    (packed_more args.bytes.now args.at i (take i numbers) (get_or numbers i 0) (length-take-le i numbers (omega arith)) (omega arith))

pub returns : goal.returns
returns c =
    let numbers = c.args.numbers.now in
    let end : c.loop-i.i ≡ length numbers = omega arith in
    c.loop-i.invariant ∙ rw (end, take-length numbers)
