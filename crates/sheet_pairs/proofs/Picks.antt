-- What goes by a pick, of numbers and of times, is what the pairs' definition takes.
use mathlib.Core.Path.{◌≡◌, refl}
use mathlib.Core.Bool.{Bool, true, false, cond}
use Prim.Native.Nat.{ℕ}
use lib.Dec.{eqb}
use Rattle.procedure.specs.Pairs.{by_pick}
use Rattle.units.specs.declared.Ms.{Ms}
use Rattle.sheet_pairs.specs.declared.Pick.{Pick}
use Rattle.sheet_pairs.specs.declared.Pick.TheVariants.{Protected, Permitted, Split}
use Rattle.sheet_pairs.specs.Picks.{pick_number, pick_at, chosen}

pub chosen_number : (pick : Pick) (x y z : ℕ) → chosen pick x y z ≡ by_pick (pick_number pick) x y z
chosen_number Protected x y z = refl
chosen_number Permitted x y z = refl
chosen_number Split x y z = refl

pub chosen_time : (pick : Pick) (x y z : Ms) → (chosen pick x y z).0 ≡ by_pick (pick_number pick) x.0 y.0 z.0
chosen_time Protected x y z = refl
chosen_time Permitted x y z = refl
chosen_time Split x y z = refl

-- the same of a cell's number, of numbers and of times
pub chosen_at : (n x y z : ℕ) → chosen (pick_at n) x y z ≡ by_pick n x y z
chosen_at n x y z = go (eqb n 0) (eqb n 1)
  where
    go : (t u : Bool) → chosen (cond t Protected (cond u Permitted Split)) x y z ≡ cond t x (cond u y z)
    go true u = refl
    go false true = refl
    go false false = refl

pub chosen_time_at : (n : ℕ) (x y z : Ms) → (chosen (pick_at n) x y z).0 ≡ by_pick n x.0 y.0 z.0
chosen_time_at n x y z = go (eqb n 0) (eqb n 1)
  where
    go : (t u : Bool) → (chosen (cond t Protected (cond u Permitted Split)) x y z).0 ≡ cond t x.0 (cond u y.0 z.0)
    go true u = refl
    go false true = refl
    go false false = refl
