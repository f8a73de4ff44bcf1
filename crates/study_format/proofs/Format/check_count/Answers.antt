-- `study_format::Format::check_count`. Cut short, above the limit, or right: the count's three answers.
use Rattle.study_format.proofs.Laws.{field_fits}
use Rattle.study_format.specs.Format.{count_place}
use Rattle.answers.proofs.Laws.{handed_on, passed}
use borrow.Author.Tests.{lt-ltb, le-ltb}
use mathlib.Core.Path.{◌∙◌}
use Rattle.study_format.proofs.Format.check_count.Goals as goal

pub returns-in_default : goal.returns-in_default
returns-in_default c = handed_on _ c.check_whole-whole.ensures c.in_default.is

pub sites_of-requires : goal.sites_of-requires
sites_of-requires c =
    field_fits c.args.file.now count_place c.check_whole-whole.ensures c.in-Accepted.is

pub returns-then-self-sites_of : goal.returns-then-self-sites_of
returns-then-self-sites_of c =
    passed _ c.check_whole-whole.ensures c.in-Accepted.is
    (c.refused.ensures ∙ simp (← c.sites_of.ensures.0, lt-ltb _ _ c.if-self-sites_of.true))

pub returns : goal.returns
returns c =
    passed _ c.check_whole-whole.ensures c.in-Accepted.is
    (simp (← c.sites_of.ensures.0, le-ltb _ _ c.if-self-sites_of.false))
