-- `program_site::read_site`. Each way out is one of the definition's cases; a good file's count is its number of sites.
use Rattle.program_site.proofs.Laws.{bad_file, counted, missing, there, had}
use Rattle.program_site.specs.Site.{site_named}
use Rattle.study.specs.Study.{site_entries}
use mathlib.Core.Path.{sym, ◌∙◌}
use lib.ListN.{length}
use native.Mathlib.Omega.{arith}
use Rattle.program_site.proofs.read_site.Goals as goal

pub returns-in-Refused : goal.returns-in-Refused
returns-in-Refused c =
    let args = c.args in
    let is = bad_file args.file.now args.word.now (sym c.check-answer.ensures ∙ c.in-Refused.is) in
    record {
      value = sym is;
      entries_after = rw is;
    }

pub returns-then-sites-site : goal.returns-then-sites-site
returns-then-sites-site c =
    let args = c.args in
    let good = sym c.check-answer.ensures ∙ c.in_default.is in
    let past = rw (c.count-sites.ensures.0, c.site_of-site.ensures, c.number_of.ensures) at c.if-sites-site.true in
    let is = missing args.file.now args.word.now good past in
    let sites = c.count-sites.ensures.0 ∙ counted args.file.now args.word.now good in
    record {
      value = rw sites (sym is);
      entries_after = rw is;
    }

pub returns : goal.returns
returns c =
    let args = c.args in
    let good = sym c.check-answer.ensures ∙ c.in_default.is in
    let named = rw c.number_of.ensures at c.site_of-site.ensures in
    let within = rw (c.count-sites.ensures.0, named) at c.if-sites-site.false in
    let is = there args.file.now args.word.now good within in
    let old = args.entries.now in
    let new = site_entries args.file.now (site_named args.word.now) in
    let entries = had args.file.now (site_named args.word.now) within (length old) new old (omega arith) in
    record {
      value = rw (is, named);
      entries_after = rw is (rw (named, entries) at c.site_entries.ensures.entries_after);
    }
