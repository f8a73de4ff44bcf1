-- A study of before, if it is to be kept, is to be converted first; else the changes are made.
use Rattle.program_amend.specs.Run.{is_kept, amend_study}
use Rattle.program_outcome.proofs.Laws.{left_saying}
use Rattle.study.specs.Study.{is_old}
use Rattle.study.proofs.Laws.{not_old}
use Rattle.lists.proofs.Tests.{not_both}
use Rattle.text.proofs.Laws.{placed_nothing}
use mathlib.Core.Bool.{true, false, ◌&&◌}
use mathlib.Core.Path.{◌≡◌, sym, ◌∙◌}
use Rattle.program_amend.proofs.amend_study.Goals.{Joined-else-is_kept, else-is_kept-via-else-is_kept, else-is_kept-via-then-is_kept+else-is_old}
use Rattle.program_amend.proofs.amend_study.Goals as goal

pub returns-then-is_old : goal.returns-then-is_old
unfolding amend_study
returns-then-is_old c =
    let before : is_old c.args.file.now ≡ true = sym c.is_old.ensures ∙ c.if-is_old.true in
    rw (sym c.is_kept.ensures ∙ c.if-is_kept.true, before, c.said.ensures)
    record {
      left = left_saying (rw c.word-name.ensures at c.say_old.ensures);
      placed = placed_nothing _ 0;
    }

-- it is not to be kept, or not one of before
other : (d : Joined-else-is_kept) → let args = d.args in (is_kept args.call.arguments && is_old args.file.now) ≡ false
other d =
    let kept = d.is_kept.ensures in
    elim d.else-is_kept.branch [
      | else-is_kept-via-then-is_kept+else-is_old w ↦ rw (sym kept ∙ w.if-is_kept.true) (sym w.is_old.ensures ∙ w.if-is_old.false)
      | else-is_kept-via-else-is_kept w ↦ rw (sym kept ∙ w.if-is_kept.false)
    ]

pub amend_file-requires : goal.amend_file-requires
amend_file-requires c =
    (c.requires, λ is. not_old c.args.file.now (not_both (is_kept c.args.call.arguments) _ (other (goal.at.amend_file-requires c).Joined-else-is_kept) is))

pub returns : goal.returns
unfolding amend_study
returns c = rw (other (goal.at.returns c).Joined-else-is_kept) c.amend_file.ensures
