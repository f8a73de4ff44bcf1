-- What is to fit: a section's step is at most the page's rows, and a sheet has few columns.
use native.Mathlib.Nat.{mul-le-mul}
use native.Mathlib.Omega.{arith}
use Prim.Native.Nat.{ℕ, ◌*◌, ◌≤◌, ◌<◌}
use Rattle.layout.specs.Entries.{approach_count}
use Rattle.page_form.specs.declared.Section.{Section}
use Rattle.page_form.specs.Working.{most_rows, Small}
use Rattle.page_form.proofs.Row.cell_in.Goals as goal

-- a step of a section, as often as a sheet has columns
far : (s : Section) (column : ℕ) → Small s → column < approach_count → s.step * column ≤ most_rows * approach_count
far s column small h = mul-le-mul {n₂ = most_rows} {m₂ = approach_count} (omega (arith, small.rows)) (omega arith)

pub overflow_mul-result : goal.overflow_mul-result
overflow_mul-result c =
    omega (arith, far c.section-section.result c.args.column c.section-section.ensures.1 (omega arith))

pub overflow_add-result-2 : goal.overflow_add-result-2
overflow_add-result-2 c =
    omega (arith, far c.section-section.result c.args.column c.section-section.ensures.1 (omega arith))

pub returns : goal.returns
returns c = rw (c.saturating_sub.ensures, c.section-section.ensures.0)
