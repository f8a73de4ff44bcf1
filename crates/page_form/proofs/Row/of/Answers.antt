-- What is to fit: a remainder is below the section's step, and the section ends on the page.
use native.Mathlib.Nat.{mod-lt}
use native.Mathlib.Omega.{arith}
use Prim.Native.Nat.{ℕ, ◌+◌, ◌%◌, ◌<◌}
use Rattle.page_form.specs.declared.Section.{Section}
use Rattle.page_form.specs.Working.{most_rows, Small}
use Rattle.page_form.proofs.Row.of.Goals as goal

-- the row of any cell of a section is on the page
on_page : (s : Section) (far : ℕ) → Small s → s.row + far % s.step < most_rows
on_page s far small = omega (arith, mod-lt far {m = s.step} small.steps, small.rows)

pub overflow_add-result : goal.overflow_add-result
overflow_add-result c =
    let of = c.of-section in
    omega (arith, on_page of.result c.saturating_sub.result of.ensures.1)

pub invariant_of-result : goal.invariant_of-result
invariant_of-result c =
    let of = c.of-section in
    record { on_page = on_page of.result c.saturating_sub.result of.ensures.1 }
