-- The loop's invariant: the entries of the sites passed stand at the front.
use native.Mathlib.Omega.{arith}
use mathlib.Core.Path.{◌≡◌, refl}
use Rattle.study_theorems.proofs.Study.{has_site}
use Rattle.program_convert.proofs.Laws.{no_sites, one_site_more}
use Rattle.program_convert.proofs.put_sites.Goals as goal

pub loop-site-init : goal.loop-site-init
loop-site-init c = (omega arith, refl, no_sites _ _)

pub put_site-requires : goal.put_site-requires
put_site-requires c =
    let p = c.requires in
    let count = simp p.0 at p.1 in
    (has_site c.args.file.now c.loop-site.site p.0 (omega (arith, count)), omega (arith, p.2), omega (arith, p.3, c.loop-site.invariant.1))

pub loop-site-preserved : goal.loop-site-preserved
loop-site-preserved c = (
  omega arith,
  omega (arith, c.put_site.auto, c.loop-site.invariant.1),
  one_site_more c.args.file.now _ c.loop-site.site (omega (arith, c.requires.2)) c.requires.3 c.loop-site.invariant.2 c.put_site.ensures,
)

pub returns : goal.returns
returns c =
    let end : c.loop-site.site ≡ c.args.sites = omega arith in
    rw end at c.loop-site.invariant.2
