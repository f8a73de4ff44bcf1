-- `study_writer::put_file`. The four steps that write the file.
use Rattle.study_writer.proofs.Laws.{whole_sites, written}
use native.Mathlib.Omega.{arith}
use Rattle.study_writer.proofs.put_file.Goals as goal

pub write_all-requires : goal.write_all-requires
write_all-requires c =
    let entries = c.args.entries.now in
    omega (arith, c.block_place.ensures, c.requires.fits, whole_sites c.args.format entries c.requires.whole)

pub returns : goal.returns
returns c =
    let can = c.requires in
    let blocks = rw c.block_place.ensures at c.write_all.ensures in
    written c.args.format c.args.entries.now c.args.out.now can.whole can.fits
    c.put_bytes.ensures.is c.write.ensures c.put_offsets.ensures blocks
