-- Where the storage has more than the mean, the two sides of the squared test are as they are in the definition.
use Rattle.diamond_rules.specs.Lines.{below1}
use Rattle.diamond_storage.proofs.Laws.{mean_most, square_most}
use Rattle.kinds.specs.declared.Kind.TheVariants.{Volume, Cycle, Storage}
use Rattle.kinds.specs.Working.{most_of}
use Prim.Native.Nat.{ℕ, ◌*◌, ◌-◌, ◌≤◌}
use native.Mathlib.Omega.{arith}
use borrow.Author.Tests.{lt-ltb, le-ltb}
use Rattle.diamond_storage.proofs.is_below.Goals.{Start}
use Rattle.diamond_storage.proofs.is_below.Goals as goal

mean : (s : Start) → s.args.volume.0.0 * s.args.cycle.0 ≤ most_of Volume * most_of Cycle
mean s = mean_most _ _ s.requires.0 s.requires.1

abbrev more : (s : Start) → ℕ
more s = 3600 * s.args.room.0 - s.args.volume.0.0 * s.args.cycle.0

square : (s : Start) → more s * more s ≤ (3600 * most_of Storage) * (3600 * most_of Storage)
square s = square_most (more s) (omega (arith, s.requires.2.most))

pub overflow_mul-mean : goal.overflow_mul-mean
overflow_mul-mean c = omega (arith, mean (goal.at.overflow_mul-mean c).Start)

pub returns-then-most-mean : goal.returns-then-most-mean
unfolding below1
returns-then-most-mean c =
    rw (le-ltb (c.args.volume.0.0 * c.args.cycle.0) (3600 * c.args.room.0) (omega (arith, c.if-most-mean.true)))

pub overflow_mul-result-3 : goal.overflow_mul-result-3
overflow_mul-result-3 c = omega (arith, square (goal.at.overflow_mul-result-3 c).Start)

pub overflow_mul-result-4 : goal.overflow_mul-result-4
overflow_mul-result-4 c = omega (arith, square (goal.at.overflow_mul-result-4 c).Start)

pub returns : goal.returns
unfolding below1
returns c =
    rw (lt-ltb (c.args.volume.0.0 * c.args.cycle.0) (3600 * c.args.room.0) (omega arith))
