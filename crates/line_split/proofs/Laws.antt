-- An approach is empty only where its volumes add up to nothing; without folded lefts line 27 is a line 13 or 14; two lines make a split.
use mathlib.Core.Path.{◌≡◌, refl}
use mathlib.Core.Bool.{Bool, true, false, ◌&&◌}
use Prim.Native.Nat.{ℕ, ◌+◌, max}
use native.Mathlib.Nat.{add-zero, sub-zero}
use native.Mathlib.Omega.{arith}
use lib.Dec.{eqb}
use borrow.Author.Tests.{eqb-true, ne_eqb}
use Rattle.kinds.specs.declared.Group.TheVariants.{Left, Through}
use Rattle.procedure.specs.declared.Approach.{Approach}
use Rattle.procedure.specs.Approach.{v, is_shared}
use Rattle.procedure.specs.Lines.{b, volume, v_st, s_st, s_sl, interference, part, time, reference, line27, line28}
use Rattle.units.specs.declared.Ms.{Ms}
use Rattle.line_stages.specs.Stages.{split_of}
use Rattle.line_bounds.proofs.Flows.{straight_alike}

pub not_both_none : (x y : ℕ) → (x + y ≡ 0 → ⊥) → (eqb x 0 && eqb y 0) ≡ false
not_both_none x y h = go (eqb x 0) refl
  where
    go : (t : Bool) → eqb x 0 ≡ t → (t && eqb y 0) ≡ false
    go true e = ne_eqb y 0 (λ (none : y ≡ 0). h (omega (arith, eqb-true x 0 e)))
    go false e = refl

module _ (s : Approach) (CL : ℕ) (none : b s ≡ 0) where
  straight_part : part (v_st s) (time (v_st s) CL (s_st s) + interference s Through CL) ≡ reference s Through CL
  unfolding v_st reference
  straight_part = rw (straight_alike s none, none, sub-zero)

  lefts_part : part (v s Left) (time (v s Left) CL (s_sl s)) ≡ reference s Left CL
  unfolding b volume s_sl interference reference
  lefts_part = go (is_shared s) refl
    where
      go : (t : Bool) → is_shared s ≡ t → part (v s Left) (time (v s Left) CL (s_sl s)) ≡ reference s Left CL
      go true e =
          let lefts : v s Left ≡ 0 = rw e at none in
          rw (e, lefts)
      go false e = rw (e, add-zero)

  -- without folded lefts the parts of line 27 are lines 13 and 14
  pub line27_alike : line27 s CL ≡ max (reference s Through CL) (reference s Left CL)
  unfolding line27
  line27_alike = rw (straight_part, lefts_part) (omega arith)

-- what is made of line 27 and line 28 is the stage's value
pub split_made :
    (s : Approach) (CL : ℕ) (largest weighted : Ms) → largest.0 ≡ line27 s CL → weighted.0 ≡ line28 s CL
    → record { largest = largest; weighted = weighted } ≡ split_of s CL
split_made s CL largest weighted one other = rw (← one, ← other)
