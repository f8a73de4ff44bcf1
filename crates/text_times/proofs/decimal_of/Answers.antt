-- `text_times::decimal_of`. Whole ones, or those before the point and the thousandths past it.
use Rattle.text_times.proofs.Laws.{decimal_whole, decimal_parted}
use Prim.Native.Nat.{◌+◌, ◌-◌}
use lib.ListN.{length, drop, length-drop}
use lib.Seq.{length-take-le, take_all}
use mathlib.Core.Path.{sym, ◌∙◌}
use native.Mathlib.Omega.{arith}
use Rattle.text_times.proofs.decimal_of.Goals as goal

pub returns-then-at-word : goal.returns-then-at-word
returns-then-at-word c =
    let word = c.args.word.now in
    c.together.ensures ∙ rw c.number_of.ensures (sym (decimal_whole word _ c.point_in-at.ensures.0 c.if-at-word.true))

pub slice_bounds-number_of-end : goal.slice_bounds-number_of-end
slice_bounds-number_of-end c = sym (length-take-le _ _ (omega arith))

pub returns : goal.returns
returns c =
    let word = c.args.word.now in
    let past = c.point_in-at.result + 1 in
    let rest = take_all (length word - past) (drop past word) (omega (arith, length-drop past word)) in
    c.together-2.ensures
    ∙ rw (c.number_of-seconds.ensures, c.thousandths.ensures, rest)
    (sym (decimal_parted word _ c.point_in-at.ensures.0 (omega (arith, c.point_in-at.ensures.1))))
