-- The offsets placed stand packed past the count.
use Rattle.study_format.specs.Format.{offsets_place, block_place}
use Rattle.lists.specs.Lists.{table, over}
use Rattle.study_numbers.specs.Numbers.{packed}
use mathlib.Core.Path.{◌≡◌}
use Rattle.study_writer.proofs.put_offsets.Given as goal

abbrev pub invariant-loop-placed : goal.invariant-loop-placed
invariant-loop-placed l = l.out ≡ over l.initial.out offsets_place (packed (table (block_place l.format l.sites) l.placed))
