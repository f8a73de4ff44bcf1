-- `study_writer::put_offsets`. The loop's invariant: the offsets placed stand packed past the count.
use Rattle.study_format.proofs.Laws.{places_fit}
use Rattle.study_format.specs.Format.{offsets_place, block_place}
use Rattle.lists.proofs.Laws.{length-table, table_more}
use Rattle.study_numbers.proofs.Laws.{packed_none, packed_more}
use Rattle.lists.specs.Lists.{table}
use native.Mathlib.Omega.{arith}
use mathlib.Core.Path.{◌≡◌, ◌∙◌}
use Rattle.study_writer.proofs.put_offsets.Goals as goal

pub loop-placed-init : goal.loop-placed-init
unfolding table
loop-placed-init c = packed_none _ _

pub overflow_cast-block_place : goal.overflow_cast-block_place
overflow_cast-block_place c =
    let small = places_fit c.args.format c.args.sites c.loop-placed.placed c.requires.0 (omega arith) in
    omega (arith, c.block_place.ensures, small)

pub loop-placed-preserved : goal.loop-placed-preserved
loop-placed-preserved c =
    let args = c.args in
    let placed = c.loop-placed.placed in
    let f = block_place args.format args.sites in
    c.write.ensures
    ∙ rw (c.loop-placed.invariant, c.block_place.ensures, table_more f placed)
    (packed_more args.out.now offsets_place placed (table f placed) (f placed) (length-table f placed) (omega arith))

pub returns : goal.returns
returns c =
    let end : c.loop-placed.placed ≡ c.args.sites = omega arith in
    rw end at c.loop-placed.invariant
