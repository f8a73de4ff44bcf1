use Rattle.open_file.proofs.Laws.{open_has}
use Rattle.open_file.specs.File.{blocks_in}
use Rattle.layout.specs.Open.{blocks_count}
use mathlib.Core.Path.{◌≡◌}
use lib.ListN.{length}
use native.Mathlib.Omega.{arith}
use Rattle.open_file.proofs.blocks_in.Goals as goal

pub read_from-requires : goal.read_from-requires
read_from-requires c = omega (arith, (open_has c.args.file.now c.requires).0)

pub returns : goal.returns
unfolding blocks_in
returns c =
    let size : length c.args.blocks.now ≡ blocks_count = omega arith in
    rw size at c.read_from.ensures
