-- `study_format::Format::check`. The first check that refuses answers for the file.
use Rattle.study_format.proofs.Laws.{count_accepted}
use Rattle.study_format.specs.Format.{judgement}
use Rattle.answers.proofs.Laws.{handed_on, passed}
use native.Mathlib.Omega.{arith}
use mathlib.Core.Path.{sym, ◌∙◌}
use Rattle.study_format.proofs.Format.check.Goals as goal

pub returns-in_default : goal.returns-in_default
unfolding judgement
returns-in_default c = handed_on _ c.check_opening-opening.ensures c.in_default.is

pub returns-in_default-count : goal.returns-in_default-count
unfolding judgement
returns-in_default-count c =
    passed _ c.check_opening-opening.ensures c.in-Accepted.is
    (handed_on _ c.check_count-count.ensures c.in_default-count.is)

pub sites_of-sites-requires : goal.sites_of-sites-requires
sites_of-sites-requires c =
    let args = c.args in
    (count_accepted args.self args.file.now (sym c.check_count-count.ensures ∙ c.in-Accepted-count.is)).0

pub check_offsets-offsets-requires : goal.check_offsets-offsets-requires
check_offsets-offsets-requires c =
    let counted = count_accepted c.args.self c.args.file.now (sym c.check_count-count.ensures ∙ c.in-Accepted-count.is) in
    omega (arith, c.sites_of-sites.ensures.0, counted.1)

pub returns-in_default-offsets : goal.returns-in_default-offsets
unfolding judgement
returns-in_default-offsets c =
    passed _ c.check_opening-opening.ensures c.in-Accepted.is
    (passed _ c.check_count-count.ensures c.in-Accepted-count.is
    (handed_on _ (rw c.sites_of-sites.ensures.0 at c.check_offsets-offsets.ensures) c.in_default-offsets.is))

pub check_ending-requires : goal.check_ending-requires
check_ending-requires c =
    let counted = count_accepted c.args.self c.args.file.now (sym c.check_count-count.ensures ∙ c.in-Accepted-count.is) in
    omega (arith, c.sites_of-sites.ensures.0, counted.1)

pub returns : goal.returns
unfolding judgement
returns c =
    let is = c.sites_of-sites.ensures.0 in
    passed _ c.check_opening-opening.ensures c.in-Accepted.is
    (passed _ c.check_count-count.ensures c.in-Accepted-count.is
    (passed _ (rw is at c.check_offsets-offsets.ensures) c.in-Accepted-offsets.is (rw is at c.check_ending.ensures)))
