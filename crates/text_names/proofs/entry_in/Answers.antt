-- The entry is one of the entries, so each sum on the way to it fits.
use Rattle.text_names.proofs.Laws.{under_fits}
use native.Mathlib.Omega.{arith}
use Rattle.text_names.proofs.entry_in.Goals as goal

pub overflow_mul-result : goal.overflow_mul-result
overflow_mul-result c =
    omega (arith, under_fits _ _ c.of_title-class.ensures c.requires)

pub overflow_add-result : goal.overflow_add-result
overflow_add-result c =
    omega (arith, under_fits _ _ c.of_title-class.ensures c.requires)

pub overflow_sub-result-2 : goal.overflow_sub-result-2
overflow_sub-result-2 c =
    omega (arith, under_fits _ _ c.of_title-class.ensures c.requires)

pub overflow_add-result-2 : goal.overflow_add-result-2
overflow_add-result-2 c =
    omega (arith, under_fits _ _ c.of_title-class.ensures c.requires)

pub returns : goal.returns
returns c =
    let class = c.of_title-class.ensures in
    (rw (← class.is), (under_fits _ _ class c.requires).entry)
