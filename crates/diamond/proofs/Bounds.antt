-- No time of a side of acceptable entries is longer than an adjusted time.
use mathlib.Core.Path.{◌≡◌}
use mathlib.Core.List.{List}
use Prim.Native.Nat.{ℕ, ◌≤◌, ◌<◌}
use native.Mathlib.Omega.{arith}
use lib.Dec.{lit<}
use Rattle.answers.specs.declared.Answer.TheVariants.{Accepted}
use Rattle.layout.specs.Entries.{approach_count, EB, WB, NB, SB}
use Rattle.kinds.specs.declared.Group.{Group}
use Rattle.kinds.specs.declared.Group.TheVariants.{Left, Through, Right}
use Rattle.entries.specs.Layout.{cycle}
use Rattle.entries.specs.Judging.{judged}
use Rattle.procedure.specs.declared.Approach.{Approach}
use Rattle.procedure.specs.Approach.{read_approach, is_free}
use Rattle.procedure.specs.Ranges.{Fair, FairCycle}
use Rattle.procedure.proofs.Fair.{fair, fair_cycle}
use Rattle.line_bounds.specs.Bounds.{most_adjusted}
use Rattle.line_bounds.proofs.Numbers.{chosen_most}
use Rattle.line_bounds.proofs.Times.{adjusted_most}
use Rattle.diamond_rules.specs.Record.{west, east, judged_record}
use Rattle.diamond_rules.specs.Lines.{interchange, side_of, side_at, west_side, east_side}
use Rattle.diamond_rules.proofs.Laws.{west_accepted, east_accepted}
use Rattle.diamond_plans.specs.Working.{SmallSide}

interchange_most : (s : Approach) (CL : ℕ) → Fair s → FairCycle CL → (g : Group) → interchange s g CL ≤ most_adjusted
unfolding interchange
interchange_most s CL ok cycle Left = adjusted_most s CL ok cycle Left
interchange_most s CL ok cycle Through = adjusted_most s CL ok cycle Through
interchange_most s CL ok cycle Right = chosen_most (is_free s) (λ free. omega arith) (λ waits. adjusted_most s CL ok cycle Right)

module _ (e : List ℕ) (ok : judged e ≡ Accepted) where
  most : (a : ℕ) → a < approach_count → (g : Group) → interchange (read_approach e a) g (cycle e) ≤ most_adjusted
  most a h g = interchange_most (read_approach e a) (cycle e) (fair e ok a h) (fair_cycle e ok) g

  pub side_small : (x y z : ℕ) → x < approach_count → y < approach_count → z < approach_count → SmallSide (side_at e x y z)
  unfolding side_of
  side_small x y z hx hy hz =
      record {
        through = most x hx Through;
        right = most x hx Right;
        onramp = most y hy Left;
        inner = most y hy Through;
        rampleft = most z hz Left;
        rampthrough = most z hz Through;
        rampright = most z hz Right;
      }

-- the sides of an acceptable record
module _ (r : List ℕ) (ok : judged_record r ≡ Accepted) where
  pub west_small : SmallSide (west_side r)
  unfolding west_side
  west_small = side_small (west r) (west_accepted r ok) EB WB SB (lit< tt) (lit< tt) (lit< tt)

  pub east_small : SmallSide (east_side r)
  unfolding east_side
  east_small = side_small (east r) (east_accepted r ok) WB EB NB (lit< tt) (lit< tt) (lit< tt)
