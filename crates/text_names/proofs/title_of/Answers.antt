use Prim.Native.Nat.{◌-◌}
use native.Mathlib.Nat.{div-le_self}
use native.Mathlib.Omega.{arith}
use Rattle.text_names.proofs.title_of.Goals as goal

pub overflow_add-result : goal.overflow_add-result
overflow_add-result c =
    let class = c.of_entry-class.result in
    omega (arith, div-le_self (c.args.entry - class.entry) class.width)

pub returns : goal.returns
returns c = rw (← c.of_entry-class.ensures.is)
