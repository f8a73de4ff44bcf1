-- Where nobody drives: the reference times are 0, and lines 17, 26 and 28 have the time of those who cross.
use mathlib.Core.Path.{◌≡◌}
use mathlib.Core.Bool.{true, false}
use Prim.Native.Nat.{ℕ}
use native.Mathlib.Omega.{arith}
use lib.Dec.{eqb}
use borrow.Author.Tests.{eqb-true, eq-eqb}
use Rattle.lists.proofs.Tests.{both_true}
use Rattle.kinds.specs.declared.Group.TheVariants.{Left, Through}
use Rattle.procedure.specs.declared.Approach.{Approach}
use Rattle.procedure.specs.Approach.{v}
use Rattle.procedure.specs.Lines.{volume, v_c, v_st, reference, weighted, crossed, nobody_driving, adjusted, lesser, empty}
use Rattle.procedure.specs.Lines.{line23, line24, line25, line26, line27, line28}
use Rattle.line_bounds.proofs.Flows.{parted}

-- what the lines hold: of a T group without volume, and of an approach that is empty
pub record NobodyDrives (s o : Approach) (CL : ℕ) : Type 0 where
  pub through : v_c s ≡ 0 → (reference s Through CL ≡ 0) × (adjusted s Through CL ≡ nobody_driving s CL)
  pub permitted : empty s ≡ true → (line25 s o CL ≡ 0) × (line26 s o CL ≡ nobody_driving s CL)
  pub split : empty s ≡ true → (line27 s CL ≡ 0) × (line28 s CL ≡ nobody_driving s CL)
  pub walked : crossed s ≡ true → nobody_driving s CL ≡ weighted s CL 0
  pub not_walked : crossed s ≡ false → nobody_driving s CL ≡ 0

module _ (s : Approach) (CL : ℕ) where
  idle : v_c s ≡ 0 → (reference s Through CL ≡ 0) × (adjusted s Through CL ≡ nobody_driving s CL)
  unfolding reference adjusted
  idle none = (rw (eq-eqb (v_c s) 0 none), rw (eq-eqb (v_c s) 0 none))

  -- an empty approach has no lefts either, and nothing goes straight on
  record Nobody : Type 0 where
    pub cars : v_c s ≡ 0
    pub lefts : v s Left ≡ 0
    pub straight : v_st s ≡ 0

  nobody : empty s ≡ true → Nobody
  unfolding empty v_st
  nobody e =
      let none = both_true (eqb (volume s Left) 0) (eqb (v_c s) 0) e in
      let cars : v_c s ≡ 0 = eqb-true (v_c s) 0 none.1 in
      let p = parted s in
      record {
        cars = cars;
        lefts = omega (arith, eqb-true (volume s Left) 0 none.0, p.left, p.through);
        straight = omega (arith, cars);
      }

  split : empty s ≡ true → (line27 s CL ≡ 0) × (line28 s CL ≡ nobody_driving s CL)
  unfolding line27 line28
  split e =
      let none = nobody e in
      (rw ((idle none.cars).0, eq-eqb (v_st s) 0 none.straight, eq-eqb (v s Left) 0 none.lefts), rw e)

  permitted : (o : Approach) → empty s ≡ true → (line25 s o CL ≡ 0) × (line26 s o CL ≡ nobody_driving s CL)
  unfolding line23 line24 line25 line26 lesser
  permitted o e = (rw e, rw e)

  pub nobody_drives : (o : Approach) → NobodyDrives s o CL
  unfolding nobody_driving
  nobody_drives o =
      record { through = idle; permitted = permitted o; split = split; walked = λ yes. rw yes; not_walked = λ no. rw no }
