-- `study_listing::put_sites`. The loop's invariant: the lines of the sites passed stand at the front.
use Rattle.study_listing.specs.Listing.{site_lines}
use Rattle.text.specs.Text.{Placed}
use Rattle.study_listing.proofs.put_sites.Given as goal

abbrev pub invariant-loop-site : goal.invariant-loop-site
invariant-loop-site l = Placed l.initial.out 0 (site_lines l.file l.site) l.out l.at
