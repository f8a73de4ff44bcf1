-- `study_reader::site_answer`. A bad file answers for itself; a good one is asked for the site.
use Rattle.study_format.proofs.Laws.{accepted}
use Rattle.answers.proofs.Laws.{handed_on, passed}
use borrow.Author.Tests.{le-leb, lt-leb}
use native.Mathlib.Omega.{arith}
use mathlib.Core.Path.{sym, ◌∙◌}
use Rattle.study_reader.proofs.site_answer.Goals as goal

pub returns-in_default : goal.returns-in_default
returns-in_default c = handed_on _ c.check-answer.ensures c.in_default.is

pub sites_of-requires : goal.sites_of-requires
sites_of-requires c =
    let args = c.args in
    omega (arith, (accepted args.format args.file.now (sym c.check-answer.ensures ∙ c.in-Accepted.is)).size)

pub returns-then-sites_of-site : goal.returns-then-sites_of-site
returns-then-sites_of-site c =
    passed _ c.check-answer.ensures c.in-Accepted.is
    (c.refused.ensures ∙ simp (← c.sites_of.ensures.0, le-leb _ _ c.if-sites_of-site.true))

pub returns : goal.returns
returns c =
    passed _ c.check-answer.ensures c.in-Accepted.is
    (simp (← c.sites_of.ensures.0, lt-leb _ _ c.if-sites_of-site.false))
