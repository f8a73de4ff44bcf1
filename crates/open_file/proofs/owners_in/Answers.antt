use Rattle.open_file.proofs.Laws.{open_has}
use Rattle.open_file.specs.File.{owners_in}
use Rattle.layout.specs.Open.{place_count}
use mathlib.Core.Path.{◌≡◌}
use lib.ListN.{length}
use native.Mathlib.Omega.{arith}
use Rattle.open_file.proofs.owners_in.Goals as goal

pub read_from-requires : goal.read_from-requires
read_from-requires c = omega (arith, (open_has c.args.file.now c.requires).0)

pub returns : goal.returns
unfolding owners_in
returns c =
    let size : length c.args.owners.now ≡ place_count = omega arith in
    rw size at c.read_from.ensures
