-- `text_times::time_of`. No unit, milliseconds, and seconds.
use Rattle.text_times.proofs.Laws.{from_end_some}
use Rattle.text_times.specs.Times.{time_of}
use lib.Seq.{length-take-le}
use borrow.Author.Tests.{eq-eqb, ne_eqb}
use mathlib.Core.Path.{sym, ◌∙◌}
use native.Mathlib.Omega.{arith}
use Rattle.text_times.proofs.time_of.Goals as goal

pub returns-then-from_end-ne115 : goal.returns-then-from_end-ne115
unfolding time_of
returns-then-from_end-ne115 c = rw (← c.from_end.ensures, ne_eqb _ _ c.if-from_end-ne115.true)

pub overflow_sub-end : goal.overflow_sub-end
overflow_sub-end c = from_end_some _ _ _ (sym c.from_end-2.ensures ∙ c.if-from_end-eq109.true) (omega arith)

pub slice_bounds-number_of-end : goal.slice_bounds-number_of-end
slice_bounds-number_of-end c = sym (length-take-le _ _ (omega arith))

pub returns-then-from_end-eq109 : goal.returns-then-from_end-eq109
unfolding time_of
returns-then-from_end-eq109 c =
    rw (
      ← c.from_end.ensures,
      eq-eqb _ _ c.if-from_end-ne115.false,
      ← c.from_end-2.ensures,
      eq-eqb _ _ c.if-from_end-eq109.true,
    )
    c.number_of.ensures

pub overflow_sub-end-2 : goal.overflow_sub-end-2
overflow_sub-end-2 c =
    from_end_some _ _ _ (sym c.from_end.ensures ∙ c.if-from_end-ne115.false) (omega arith)

pub slice_bounds-decimal_of-end : goal.slice_bounds-decimal_of-end
slice_bounds-decimal_of-end c = sym (length-take-le _ _ (omega arith))

pub returns : goal.returns
unfolding time_of
returns c =
    rw (
      ← c.from_end.ensures,
      eq-eqb _ _ c.if-from_end-ne115.false,
      ← c.from_end-2.ensures,
      ne_eqb _ _ c.if-from_end-eq109.false,
    )
    c.decimal_of.ensures
