-- `text_places::position_of`. The loop's invariant: the line and the column past the bytes passed.
use Rattle.text_places.proofs.Laws.{line_fed, line_kept, column_fed, column_more}
use Rattle.text_places.specs.Places.{line_at, column_at}
use native.Mathlib.Omega.{arith}
use mathlib.Core.Path.{◌≡◌, refl, ◌∙◌}
use Rattle.text_places.proofs.position_of.Goals.{else-text-i-eq10, then-text-i-eq10}
use Rattle.text_places.proofs.position_of.Goals as goal

pub loop-i-init : goal.loop-i-init
unfolding line_at column_at
loop-i-init c = (omega arith, refl, refl)

pub loop-i-preserved : goal.loop-i-preserved
loop-i-preserved c =
    let text = c.args.text.now in
    let i = c.loop-i.i in (
      omega arith,
      (elim c.if-text-i-eq10.branch [
        | then-text-i-eq10 w ↦ w.line-is ∙ w.more-line.ensures ∙ line_fed text i w.if-text-i-eq10.true c.loop-i.invariant.1
        | else-text-i-eq10 w ↦ w.line-is ∙ line_kept text i w.if-text-i-eq10.false c.loop-i.invariant.1
      ]),
      (elim c.if-text-i-eq10.branch [
        | then-text-i-eq10 w ↦ w.column-is ∙ column_fed text i w.if-text-i-eq10.true
        | else-text-i-eq10 w ↦ w.column-is ∙ w.more-column.ensures ∙ column_more text i w.if-text-i-eq10.false c.loop-i.invariant.2
      ]),
    )

pub returns : goal.returns
returns c =
    let end : c.loop-i.i ≡ c.args.byte = omega arith in
    (rw end at c.loop-i.invariant.1, rw end at c.loop-i.invariant.2)
