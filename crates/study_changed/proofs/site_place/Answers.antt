use Rattle.study_changed.proofs.Laws.{in_file, block_within}
use native.Mathlib.Omega.{arith}
use Rattle.study_changed.proofs.site_place.Goals as goal

pub sites_of-requires : goal.sites_of-requires
sites_of-requires c =
    omega (arith, block_within c.args.file.now c.args.site c.requires.0 c.requires.1)

pub block_place-requires : goal.block_place-requires
block_place-requires c =
    let sites = c.sites_of.ensures in
    let there = in_file c.args.file.now c.args.site c.requires.0 c.requires.1 in
    (omega (arith, sites), omega (arith, sites, there))

pub returns : goal.returns
returns c = rw c.sites_of.ensures.0 at c.block_place.ensures
