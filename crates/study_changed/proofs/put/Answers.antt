-- `study_changed::put`. The file, and then the site's block put into it.
use Rattle.study_changed.proofs.Laws.{file_fits, block_within, changed_placed}
use native.Mathlib.Omega.{arith}
use Rattle.study_changed.proofs.put.Goals as goal

pub site_place-at-requires : goal.site_place-at-requires
site_place-at-requires c = (c.requires.0, c.requires.1)

pub put_bytes-end-requires : goal.put_bytes-end-requires
put_bytes-end-requires c =
    omega (arith, file_fits c.args.file.now c.args.site c.requires.0 c.requires.1)

pub write_all-requires : goal.write_all-requires
write_all-requires c =
    let file = c.args.file.now in
    let site = c.args.site in
    let place = c.site_place-at.ensures in
    let p = c.requires in
    omega (arith, place, p.2, block_within file site p.0 p.1, file_fits file site p.0 p.1)

pub returns : goal.returns
returns c =
    let place = c.site_place-at.ensures in
    changed_placed _ _ _ c.requires.0 c.requires.1 c.requires.2 c.put_bytes-end.ensures place c.write_all.ensures
