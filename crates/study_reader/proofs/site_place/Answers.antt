-- `study_reader::site_place`. An accepted site's block lies within the file.
use Rattle.study_format.proofs.Laws.{has_site}
use native.Mathlib.Omega.{arith}
use Rattle.study_reader.proofs.site_place.Goals as goal

pub sites_of-requires : goal.sites_of-requires
sites_of-requires c =
    omega (arith, (has_site c.args.format c.args.file.now c.args.site c.requires).within)

pub block_place-requires : goal.block_place-requires
block_place-requires c =
    let has = has_site c.args.format c.args.file.now c.args.site c.requires in
    (omega (arith, c.sites_of.ensures), omega (arith, c.sites_of.ensures, has.there))

pub returns : goal.returns
returns c =
    let has = has_site c.args.format c.args.file.now c.args.site c.requires in
    let is = rw c.sites_of.ensures.0 at c.block_place.ensures in
    (is, rw is has.within)
