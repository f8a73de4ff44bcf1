-- `study_format::Format::check_offset`. Cut short, wrong, or right: an offset's three answers.
use Rattle.study_format.proofs.Laws.{field_fits}
use Rattle.answers.proofs.Laws.{handed_on, passed, refuses, accepts}
use mathlib.Core.Bool.{not}
use mathlib.Core.Path.{sym, ◌∙◌, ap}
use borrow.Author.Tests.{eq-eqb, ne_eqb}
use Rattle.study_format.proofs.Format.check_offset.Goals as goal

pub returns-in_default : goal.returns-in_default
returns-in_default c = handed_on _ c.check_whole-whole.ensures c.in_default.is

pub read-requires : goal.read-requires
read-requires c = field_fits c.args.file.now _ c.check_whole-whole.ensures c.in-Accepted.is

pub returns-then-read-block_place : goal.returns-then-read-block_place
returns-then-read-block_place c =
    let other = ne_eqb _ _ (λ e. c.if-read-block_place.true (c.read.ensures ∙ e ∙ sym c.block_place.ensures)) in
    passed _ c.check_whole-whole.ensures c.in-Accepted.is (c.refused.ensures ∙ refuses _ _ (ap not other))

pub returns : goal.returns
returns c =
    let same = eq-eqb _ _ (sym c.read.ensures ∙ c.if-read-block_place.false ∙ c.block_place.ensures) in
    passed _ c.check_whole-whole.ensures c.in-Accepted.is (sym (accepts _ _ (ap not same)))
