-- That it is a movement's number is one computed test of all columns; past the sides' columns there is none.
use mathlib.Core.Path.{◌≡◌, refl}
use Prim.Native.Nat.{ℕ, ◌*◌, ◌<◌}
use lib.Dec.{ltb}
use lib.ListN.{get_or, get_or-eq_default}
use native.Mathlib.Decide.{dec_lt}
use native.Mathlib.Omega.{arith}
use borrow.Author.Rules.{rules}
use borrow.Author.Tests.{ltb-true}
use Rattle.lists.proofs.Tests.{at_each}
use Rattle.layout.specs.Entries.{movement_count}
use Rattle.layout.specs.Diamond.{side_count, side_times}
use Rattle.diamond_form.specs.Form.{movements, movement_in}
use Rattle.diamond_form.proofs.Column.movement.Goals as goal

most : (i : ℕ) → get_or movements i 0 < movement_count
most i = by (dec_lt i (side_times * side_count))
  where
    by : Dec (i < side_times * side_count) → get_or movements i 0 < movement_count
    by (yes h) = ltb-true _ _ (at_each (λ k. ltb (get_or movements k 0) movement_count) (side_times * side_count) refl i h)
    by (no h) = rw (get_or-eq_default movements 0 {n = i} (omega arith)) (omega arith)

pub returns : goal.returns
returns c =
    let is : c.unwrap_or.result ≡ movement_in c.args.self.side c.args.self.number = search rules in
    (is, rw is (most _))
