-- `text_numbers::digits_of`. The loop's invariant: the number that the bytes passed spell.
use Rattle.text_numbers.proofs.Laws.{number_more}
use Rattle.text_numbers.specs.Numbers.{number_in}
use lib.ListN.{length}
use native.Mathlib.Omega.{arith}
use mathlib.Core.Path.{◌≡◌, refl, ◌∙◌}
use Rattle.text_numbers.proofs.digits_of.Goals as goal

pub loop-n-init : goal.loop-n-init
unfolding number_in
loop-n-init c = (omega arith, omega arith, refl)

pub loop-n-preserved : goal.loop-n-preserved
loop-n-preserved c =
    (omega arith, omega arith, number_more c.args.word.now c.loop-n.n c.loop-n.invariant.2 c.next_number-number.ensures.0)

pub returns : goal.returns
returns c =
    let end : c.loop-n.n ≡ length c.args.word.now = omega arith in
    c.loop-n.invariant.2 ∙ rw end
