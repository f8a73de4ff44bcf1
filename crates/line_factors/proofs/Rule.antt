-- The table's rule: one test, computed over the whole table, shows it of each group and number of lanes.
use mathlib.Core.Path.{◌≡◌, refl, ◌∙◌}
use mathlib.Core.Bool.{Bool, true, ◌&&◌}
use mathlib.Core.List.{List, [], ◌∷◌}
use Prim.Native.Nat.{ℕ, ◌+◌, ◌-◌, ◌*◌, ◌/◌, ◌%◌, ◌<◌, ◌≤◌}
use native.Mathlib.Omega.{arith}
use lib.ListN.{get_or}
use lib.Dec.{eqb, leb}
use borrow.Author.Tests.{eqb-true, leb-true}
use Rattle.lists.proofs.Tests.{holds_below, both_true, at_each}
use Rattle.kinds.specs.declared.Group.{Group}
use Rattle.kinds.specs.declared.Group.TheVariants.{Left, Through, Right}
use Rattle.kinds.specs.declared.Kind.TheVariants.{Lanes}
use Rattle.kinds.specs.Kinds.{group_at}
use Rattle.kinds.specs.Working.{most_of}
use Rattle.layout.specs.Entries.{group_count}
use Rattle.line_factors.specs.Factors.{lane_factor}
use Rattle.line_factors.specs.Working.{row_of}

-- the numbers of the code's table
abbrev pub typed : List ℕ
typed =
    1000 ∷ 971 ∷ 971 ∷ 971 ∷ 971 ∷ 971 ∷ 1000 ∷ 952 ∷ 908 ∷ 908 ∷ 908 ∷ 908 ∷ 1000 ∷ 885 ∷ 885 ∷ 885 ∷ 885 ∷ 885 ∷ []

-- how many factors each group has there
abbrev most : ℕ
most = most_of Lanes

test : ℕ → Bool
test k = eqb (get_or typed k 0) (lane_factor (group_at (k / most)) (k % most + 1)) && leb (get_or typed k 0) 1000

whole : holds_below test (group_count * most) ≡ true
unfolding test lane_factor
whole = refl

group_of_row : (g : Group) → group_at (row_of g) ≡ g
group_of_row Left = refl
group_of_row Through = refl
group_of_row Right = refl

pub rule :
    (g : Group) (n : ℕ) → row_of g < group_count → 1 ≤ n → n ≤ most_of Lanes
    → (get_or typed (most_of Lanes * row_of g + (n - 1)) 0 ≡ lane_factor g n) × (get_or typed (most_of Lanes * row_of g + (n - 1)) 0 ≤ 1000)
unfolding test
rule g n s h k =
    let i = most * row_of g + (n - 1) in
    let right = eqb (get_or typed i 0) (lane_factor (group_at (i / most)) (i % most + 1)) in
    let two = both_true right (leb (get_or typed i 0) 1000) (at_each test (group_count * most) whole i (omega arith)) in
    let row : i / most ≡ row_of g = omega arith in
    let lanes : i % most + 1 ≡ n = omega arith in
    let is : get_or typed i 0 ≡ lane_factor (group_at (i / most)) (i % most + 1) = eqb-true _ _ two.0 in
    (is ∙ rw (row, lanes, group_of_row g), leb-true _ _ two.1)
