-- The definition's five conditions, one return for each that fails and one where all hold.
use borrow.Author.Tests.{eq-eqb, ne_eqb}
use Rattle.procedure.specs.Lines.{single}
use Rattle.line_meeting.proofs.is_single.Goals as goal

pub returns-then-o-ne0 : goal.returns-then-o-ne0
unfolding single
returns-then-o-ne0 c = rw (ne_eqb _ _ c.if-o-ne0.true)

pub returns-then-o-ne1 : goal.returns-then-o-ne1
unfolding single
returns-then-o-ne1 c = rw (eq-eqb _ _ c.if-o-ne0.false, ne_eqb _ _ c.if-o-ne1.true)

pub returns-then-o-ne0-2 : goal.returns-then-o-ne0-2
unfolding single
returns-then-o-ne0-2 c = rw (eq-eqb _ _ c.if-o-ne0.false, eq-eqb _ _ c.if-o-ne1.false, ne_eqb _ _ c.if-o-ne0-2.true)

pub returns-then-o-ne1-2 : goal.returns-then-o-ne1-2
unfolding single
returns-then-o-ne1-2 c =
    rw (
      eq-eqb _ _ c.if-o-ne0.false,
      eq-eqb _ _ c.if-o-ne1.false,
      eq-eqb _ _ c.if-o-ne0-2.false,
      ne_eqb _ _ c.if-o-ne1-2.true,
    )

pub returns : goal.returns
unfolding single
returns c =
    rw (
      eq-eqb _ _ c.if-o-ne0.false,
      eq-eqb _ _ c.if-o-ne1.false,
      eq-eqb _ _ c.if-o-ne0-2.false,
      eq-eqb _ _ c.if-o-ne1-2.false,
    )
