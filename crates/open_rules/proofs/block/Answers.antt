use Rattle.open_rules.specs.Open.{block_at}
use Rattle.open_rules.proofs.Blocks.{block_length}
use Rattle.layout.specs.Entries.{entry_count}
use Prim.Native.Nat.{◌+◌, ◌-◌, ◌*◌}
use mathlib.Core.Path.{◌≡◌, refl}
use native.Mathlib.Omega.{arith}
use Rattle.open_rules.proofs.block.Goals as goal

pub returns : goal.returns
unfolding block_at
returns c =
    let s = c.args.site in
    let size : entry_count * s + entry_count - entry_count * s ≡ entry_count = omega arith in
    rw size (refl, block_length c.args.blocks.now s c.requires.0 c.requires.1)
