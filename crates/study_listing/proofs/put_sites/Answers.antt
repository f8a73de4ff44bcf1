-- `study_listing::put_sites`. The loop's invariant: the lines of the sites passed stand at the front.
use Rattle.study_listing.proofs.Laws.{length-site_lines, no_lines, one_line_more}
use Rattle.study_theorems.proofs.Study.{has_site}
use Rattle.study_listing.proofs.Cells.{lettered}
use Rattle.study.specs.Study.{sites_of, site_entries}
use native.Mathlib.Omega.{arith}
use mathlib.Core.Path.{◌≡◌}
use Rattle.study_listing.proofs.put_sites.Goals as goal

pub loop-site-init : goal.loop-site-init
loop-site-init c = no_lines _ _

pub site_cells-requires : goal.site_cells-requires
site_cells-requires c =
    let count = c.count-sites.ensures.0 in
    let good = c.requires.0 in
    has_site c.args.file.now c.loop-site.site good (omega (arith, simp good at count))

pub put_line-at-requires : goal.put_line-at-requires
put_line-at-requires c =
    let args = c.args in
    let e = site_entries args.file.now c.loop-site.site in
    (rw c.site_cells.ensures (lettered e), omega (arith, length-site_lines args.file.now c.loop-site.site))

pub loop-site-preserved : goal.loop-site-preserved
loop-site-preserved c =
    let args = c.args in
    let line = rw c.site_cells.ensures at c.put_line-at.ensures in
    one_line_more args.file.now c.loop-site.site (omega arith) (omega arith) c.loop-site.invariant line

pub returns : goal.returns
returns c =
    let count = simp c.requires.0 at c.count-sites.ensures.0 in
    let end : c.loop-site.site ≡ sites_of c.args.file.now = omega arith in
    rw end at c.loop-site.invariant
